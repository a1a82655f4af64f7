-- The games that the slots and the groups play, one for each.
use Rattle.std.proofs.Common.{◌≡◌, ◌≤◌, ◌<◌, ◌+◌, ◌-◌, ℕ, zero, suc, List, [], ◌∷◌, Bool, true, false, Option, Some, None, length, is_some, refl, sym, ap, ◌∙◌, arith}
use Rattle.std.specs.Prelude.{All, slice_get, nat_le, if◌then◌else◌}
use Rattle.std.proofs.lemmas.Grind.{common_steps}
use Rattle.std.proofs.lemmas.List.Elements.{All-head, All-tail}
use Rattle.mw_model.specs.Seed.{Seed, Slot, Group, Game, slot_of}
use Rattle.mw_multidata.specs.Names.{find_game, played_by, received_by, plays_game}
use Rattle.mw_multidata.specs.SeedKept.{game_of, game_of_group, played, received}

-- what plays a game of this name, one for each
module _ {X : Type 0} (called : X → List ℕ) where
  abbrev pub PlayBy : List Game → List X → List Game → Type 0
  PlayBy games [] [] = Unit {0}
  PlayBy games [] (p ∷ ps) = ⊥
  PlayBy games (x ∷ xs) [] = ⊥
  PlayBy games (x ∷ xs) (p ∷ ps) = (find_game games (called x) ≡ Some p) × PlayBy games xs ps

  count : (games : List Game) (xs : List X) (ps : List Game) → PlayBy games xs ps → length ps ≡ length xs
  count games [] [] h = refl
  count games [] (p ∷ ps) h = absurd h
  count games (x ∷ xs) [] h = absurd h
  count games (x ∷ xs) (p ∷ ps) h = ap suc (count games xs ps h.1)

  abbrev found : List Game → Option X → Option Game
  found games (Some x) = find_game games (called x)
  found games None = None

  same : (games : List Game) (xs : List X) (ps : List Game) → PlayBy games xs ps → (n : ℕ) → slice_get ps n ≡ found games (slice_get xs n)
  same games [] [] h n = refl
  same games [] (p ∷ ps) h n = absurd h
  same games (x ∷ xs) [] h n = absurd h
  same games (x ∷ xs) (p ∷ ps) h zero = sym h.0
  same games (x ∷ xs) (p ∷ ps) h (suc n) = same games xs ps h.1 n

  -- it is one of these
  there : (game : Option Game) → is_some game ≡ true → (g : Game) × (game ≡ Some g)
  there (Some g) e = (g, refl)
  there None e = cc

  -- where the game of each is there
  pub all_play : (games : List Game) (xs : List X) → All (λ x. is_some (find_game games (called x)) ≡ true) xs → (ps : List Game) × PlayBy games xs ps
  all_play games [] h = ([], tt)
  all_play games (x ∷ xs) h =
      let first = there (find_game games (called x)) (All-head (λ x. is_some (find_game games (called x)) ≡ true) x xs h) in
      let others = all_play games xs (All-tail (λ x. is_some (find_game games (called x)) ≡ true) x xs h) in
      (first.0 ∷ others.0, (first.1, others.1))

abbrev pub slot_game : Slot → List ℕ
slot_game s = s.game

abbrev pub group_game : Group → List ℕ
group_game g = g.game

-- these games are those that the slots play
abbrev pub PlayAll : List Game → List Slot → List Game → Type 0
PlayAll games ss ps = PlayBy slot_game games ss ps

-- these games are those that the groups play
abbrev pub GroupsPlay : List Game → List Group → List Game → Type 0
GroupsPlay games gs ps = PlayBy group_game games gs ps

pub plays_count : (games : List Game) (ss : List Slot) (ps : List Game) → PlayAll games ss ps → length ps ≡ length ss
plays_count games ss ps h = count slot_game games ss ps h

-- ---- by number

found_slot : (games : List Game) (s : Option Slot) → found slot_game games s ≡ game_of games s
found_slot games (Some s) = refl
found_slot games None = refl

found_group : (games : List Game) (g : Option Group) → found group_game games g ≡ game_of_group games g
found_group games (Some g) = refl
found_group games None = refl

-- the slot of a number plays the game of that number
pub played_same : (seed : Seed) (ps : List Game) → PlayAll seed.games seed.slots ps → (n : ℕ) → played_by ps n ≡ played seed n
played_same seed ps h zero = refl
played_same seed ps h (suc before) = same slot_game seed.games seed.slots ps h before ∙ found_slot seed.games (slice_get seed.slots before)

choose : (games : List Game) (low : Bool) (x y : Option Game) (u v : Option Game) (g : Option Group) → x ≡ u → y ≡ game_of_group games g → (if low then x else y) ≡ (if low then u else game_of_group games (if low then None else g))
choose games true x y u v g e f = e
choose games false x y u v g e f = f

-- the receiver of a number plays the game of that number
pub received_same : (seed : Seed) (ps gs : List Game) → PlayAll seed.games seed.slots ps → GroupsPlay seed.games seed.groups gs → (n : ℕ) → received_by ps gs n ≡ received seed n
received_same seed ps gs h k n =
    let many : length ps ≡ length seed.slots = plays_count seed.games seed.slots ps h in
    let at = n - suc (length seed.slots) in
    let group : slice_get gs at ≡ game_of_group seed.games (slice_get seed.groups at) = same group_game seed.games seed.groups gs k at ∙ found_group seed.games (slice_get seed.groups at) in
    rw many (choose seed.games (nat_le n (length seed.slots)) (played_by ps n) (slice_get gs at) (played seed n) None (slice_get seed.groups at) (played_same seed ps h n) group)

-- ---- numbers that are there

within : {A : Type 0} (xs : List A) (n : ℕ) → is_some (slice_get xs n) ≡ true → n < length xs
within [] n e = cc
within (x ∷ xs) zero e = omega arith
within (x ∷ xs) (suc n) e = omega (arith, within xs n e)

pub slot_within : (seed : Seed) (n : ℕ) → is_some (slot_of seed n) ≡ true → (1 ≤ n) × (n ≤ length seed.slots)
slot_within seed zero e = cc
slot_within seed (suc n) e = (omega arith, omega (arith, within seed.slots n e))

-- where a slot's game has something, the slot is there
some_slot : (gs : List Game) (slot : Option Slot) → is_some (game_of gs slot) ≡ true → is_some slot ≡ true
some_slot gs (Some s) e = refl
some_slot gs None e = e

some_group : (gs : List Game) (group : Option Group) → is_some (game_of_group gs group) ≡ true → is_some group ≡ true
some_group gs (Some g) e = refl
some_group gs None e = e

pub number_within : (seed : Seed) (n : ℕ) → is_some (played seed n) ≡ true → (1 ≤ n) × (n ≤ length seed.slots)
number_within seed n e = slot_within seed n (some_slot seed.games (slot_of seed n) e)

some_player : (slot : Option Slot) (game : List ℕ) → plays_game slot game ≡ true → is_some slot ≡ true
some_player (Some s) game e = refl
some_player None game e = e

pub player_within : (seed : Seed) (n : ℕ) (game : List ℕ) → plays_game (slot_of seed n) game ≡ true → (1 ≤ n) × (n ≤ length seed.slots)
player_within seed n game e = slot_within seed n (some_player (slot_of seed n) game e)

by_low : (seed : Seed) (n : ℕ) (low : Bool) → nat_le n (length seed.slots) ≡ low → is_some (if low then played seed n else game_of_group seed.games (if low then None else slice_get seed.groups (n - suc (length seed.slots)))) ≡ true
    → (1 ≤ n) × (n ≤ length seed.slots + length seed.groups)
by_low seed n true l e =
    let slot = number_within seed n e in
    (slot.0, omega (arith, slot.1))
by_low seed n false l e =
    let at = n - suc (length seed.slots) in
    let group : at < length seed.groups = within seed.groups at (some_group seed.games (slice_get seed.groups at) e) in
    let above : length seed.slots < n = grind (arith, common_steps, l) in
    (omega (arith, above), omega (arith, above, group))

pub receiver_within : (seed : Seed) (n : ℕ) → is_some (received seed n) ≡ true → (1 ≤ n) × (n ≤ length seed.slots + length seed.groups)
receiver_within seed n e = by_low seed n (nat_le n (length seed.slots)) refl e
