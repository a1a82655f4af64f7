-- The number of a file that is there.
use Rattle.std.proofs.Common.{◌≡◌, ℕ, ◌+◌, ◌<◌, ◌≤◌, List, [], ◌∷◌, ◌++◌, length, length-append, get_or, Bool, true, false, refl, ap, ◌∙◌, cond, arith}
use Rattle.std.specs.Prelude.{Option, Some, None, bytes_eq, ◌||◌, All, if◌then◌else◌}
use Rattle.std.specs.List.{list_any, position_from}
use Rattle.mw_multi.specs.World.{World}
use Rattle.mw_multi.specs.Files.{is_among, with_file, files_with, world_files, world_at, world_named, no_world}
use Rattle.mw_multi.specs.Players.{Player, Players}
use Rattle.mw_multi.proofs.Marks.{position_within, among_push}
use Rattle.std.proofs.lemmas.List.Elements.{All-nil, All-cons}
use Rattle.std.proofs.lemmas.Slice.Eq.{bytes_eq-Decides}

-- either the first passes, or a later one does
found_here : (b later : Bool) (n : ℕ) (rest : Option ℕ) → (b || later) ≡ true → cond b (Some n) rest ≡ None → (later ≡ true) × (rest ≡ None)
found_here true later n rest some none = cc
found_here false later n rest some none = (some, none)

pub found_somewhere : {X : Type 0} (p : X → Bool) (n : ℕ) (xs : List X) → list_any p xs ≡ true → position_from p n xs ≡ None → ⊥
found_somewhere p n [] some none = cc
found_somewhere p n (x ∷ xs) some none =
    let later = found_here (p x) (list_any p xs) n (position_from p (n + 1) xs) some none in found_somewhere p (n + 1) xs later.0 later.1

pub file_within : (files : List (List ℕ)) (name : List ℕ) (i : ℕ) → position_from (bytes_eq name) 0 files ≡ Some i → i < length files
file_within files name i found = let bounds = position_within (bytes_eq name) 0 i files found in omega (arith, bounds.1)

pub world_of_file : (files : List (List ℕ)) (worlds : List World) (name : List ℕ) (i : ℕ) → position_from (bytes_eq name) 0 files ≡ Some i → world_named files worlds name ≡ get_or worlds i no_world
world_of_file files worlds name i found = ap (world_at worlds) found

-- ---- the files that players name

pub or_left : (b c : Bool) → b ≡ true → (b || c) ≡ true
or_left true c e = refl
or_left false c e = cc

pub or_right : (b c : Bool) → c ≡ true → (b || c) ≡ true
or_right true c e = refl
or_right false c e = e

kept_among : (b : Bool) (files : List (List ℕ)) (file name : List ℕ) → is_among files name ≡ true → is_among (if b then files else files ++ file ∷ []) name ≡ true
kept_among true files file name there = there
kept_among false files file name there = among_push files file name ∙ or_left (is_among files name) (bytes_eq name file) there

-- a file that is there stays
stays_among : (files : List (List ℕ)) (players : List Player) (name : List ℕ) → is_among files name ≡ true → is_among (files_with files players) name ≡ true
stays_among files [] name there = there
stays_among files (p ∷ players) name there = stays_among (with_file files p.world) players name (kept_among (is_among files p.world) files p.world name there)

new_among : (b : Bool) (files : List (List ℕ)) (file : List ℕ) → is_among files file ≡ b → is_among (if b then files else files ++ file ∷ []) file ≡ true
new_among true files file there = there
new_among false files file missing = among_push files file file ∙ or_right (is_among files file) (bytes_eq file file) ((bytes_eq-Decides file file).1 refl)

-- each player's file is there
pub each_among : (files : List (List ℕ)) (players : List Player) → All (λ p. is_among (files_with files players) p.world ≡ true) players
each_among files [] = All-nil (λ p. is_among files p.world ≡ true)
each_among files (p ∷ players) =
    All-cons (λ q. is_among (files_with (with_file files p.world) players) q.world ≡ true) p players
    (stays_among (with_file files p.world) players p.world (new_among (is_among files p.world) files p.world refl))
    (each_among (with_file files p.world) players)

one_more : (b : Bool) (files : List (List ℕ)) (file : List ℕ) → length (if b then files else files ++ file ∷ []) ≤ length files + 1
one_more true files file = omega arith
one_more false files file = omega (arith, length-append files (file ∷ []))

-- no more files than players
pub few_files : (files : List (List ℕ)) (players : List Player) → length (files_with files players) ≤ length files + length players
few_files files [] = omega arith
few_files files (p ∷ players) = omega (arith, few_files (with_file files p.world) players, one_more (is_among files p.world) files p.world)

pub all_named : (files : List (List ℕ)) (players : Players) (listed : List Player) → files ≡ world_files players → listed ≡ players.players
    → All (λ p. is_among files p.world ≡ true) listed
all_named files players listed is_files is_listed = rw (is_files, is_listed) (each_among [] players.players)
