-- The tables as they are written are read again.
use Rattle.std.proofs.Common.{◌≡◌, ◌≤◌, ◌+◌, ◌*◌, ℕ, zero, suc, List, [], ◌∷◌, ◌++◌, Result, Ok, Err, codes, decimal, refl, ap, ◌∙◌, subst, inr, arith}
use Rattle.std.specs.Prelude.{IfOk, IsUtf8}
use Rattle.mw_model.specs.Json.{Json, depth, IsWritable, IsOrdered, ItemsAreOrdered, IsPlain, ItemsArePlain}
use Rattle.mw_model.specs.Spelling.{spelling}
use Rattle.mw_model.specs.Trees.{items_of}
use Rattle.mw_json.specs.Files.{IsJudged}
use Rattle.mw_json.specs.Reading.{max_depth, reading}
use Rattle.mw_json.proofs.Again.{reads_back}
use Rattle.mw_tables.specs.WorldOf.{WorldOf}
use Rattle.mw_tables.specs.PlayersOf.{PlayersOf}
use Rattle.mw_clock.specs.Clockwork.{IsSize, clockwork, players}
use Rattle.mw_clock.specs.Words.{IsFileName}
use Rattle.mw_clock.proofs.Accepted.{accepted}
use Rattle.mw_clock.proofs.OnePlayer.{players_accepted}
use Rattle.mw_clock.specs.Tables.{floor_json, floors_json, stair_json, stairs_json, location_json, box_json, boxes_json, bell_json, items_json, pool_json, goal_json, world_json, players_json}
use Rattle.mw_clock.proofs.Twenty.{UpTo, each}

-- ---- members in order

one_more : (js : List Json) (j : Json) → ItemsAreOrdered (items_of js) → IsOrdered j → ItemsAreOrdered (items_of (js ++ j ∷ []))
one_more [] j all one = (one, tt)
one_more (k ∷ js) j all one = (all.0, one_more js j all.1 one)

two_more : (js : List Json) (j k : Json) → ItemsAreOrdered (items_of js) → IsOrdered j → IsOrdered k → ItemsAreOrdered (items_of (js ++ j ∷ k ∷ []))
two_more [] j k all one two = (one, (two, tt))
two_more (i ∷ js) j k all one two = (all.0, two_more js j k all.1 one two)

floors_ordered : (n : ℕ) → ItemsAreOrdered (items_of (floors_json n))
floors_ordered zero = tt
floors_ordered (suc n) = one_more (floors_json n) (floor_json n) (floors_ordered n) tt

stair_ordered : (i : ℕ) → IsOrdered (stair_json i)
stair_ordered i = (tt, (refl, (refl, (refl, tt))), (tt, (refl, (refl, tt)), ((tt, (refl, tt), (tt, tt, tt)), (refl, tt), (tt, tt, tt))))

stairs_ordered : (n : ℕ) → ItemsAreOrdered (items_of (stairs_json n))
stairs_ordered zero = tt
stairs_ordered (suc n) = one_more (stairs_json n) (stair_json n) (stairs_ordered n) (stair_ordered n)

location_ordered : (name : List ℕ) (id region : ℕ) → IsOrdered (location_json name id region)
location_ordered name id region = (tt, (refl, (refl, (refl, tt))), (tt, (refl, (refl, tt)), (tt, (refl, tt), (tt, tt, tt))))

boxes_ordered : (n : ℕ) → ItemsAreOrdered (items_of (boxes_json n))
boxes_ordered zero = tt
boxes_ordered (suc n) =
    two_more (boxes_json n) (box_json (2 * n + 1) n) (box_json (2 * n + 2) n) (boxes_ordered n) (location_ordered (codes "Box " ++ decimal (2 * n + 1)) (2 * n + 1) n)
    (location_ordered (codes "Box " ++ decimal (2 * n + 2)) (2 * n + 2) n)

world_ordered : (gears : ℕ) → IsOrdered (world_json gears)
world_ordered gears = (stairs_ordered gears, (refl, (refl, (refl, (refl, (refl, (refl, (refl, (refl, tt)))))))), (tt, (refl, (refl, (refl, (refl, (refl, (refl, (refl, tt))))))), (tt, (refl, (refl, (refl, (refl, (refl, (refl, tt)))))), (tt, (refl, (refl, (refl, (refl, (refl, tt))))), (((tt, tt, tt), tt, tt), (refl, (refl, (refl, (refl, tt)))), (((tt, (refl, (refl, tt)), (tt, (refl, tt), (tt, tt, tt))), ((tt, (refl, (refl, tt)), (tt, (refl, tt), (tt, tt, tt))), tt)), (refl, (refl, (refl, tt))), (one_more (boxes_json gears) (bell_json gears) (boxes_ordered gears) (location_ordered (codes "Bell") (2 * gears + 1) gears), (refl, (refl, tt)), (((tt, (refl, tt), (tt, tt, tt)), tt), (refl, tt), (floors_ordered (gears + 1), tt, tt)))))))))

players_ordered : (file : List ℕ) → IsOrdered (players_json file)
players_ordered file = (tt, (refl, tt), ((((tt, tt), (refl, tt), (tt, tt, tt)), tt), tt, tt))

-- ---- without numerals

one_more_plain : (js : List Json) (j : Json) → ItemsArePlain (items_of js) → IsPlain j → ItemsArePlain (items_of (js ++ j ∷ []))
one_more_plain [] j all one = (one, tt)
one_more_plain (k ∷ js) j all one = (all.0, one_more_plain js j all.1 one)

two_more_plain : (js : List Json) (j k : Json) → ItemsArePlain (items_of js) → IsPlain j → IsPlain k → ItemsArePlain (items_of (js ++ j ∷ k ∷ []))
two_more_plain [] j k all one two = (one, (two, tt))
two_more_plain (i ∷ js) j k all one two = (all.0, two_more_plain js j k all.1 one two)

floors_plain : (n : ℕ) → ItemsArePlain (items_of (floors_json n))
floors_plain zero = tt
floors_plain (suc n) = one_more_plain (floors_json n) (floor_json n) (floors_plain n) tt

stairs_plain : (n : ℕ) → ItemsArePlain (items_of (stairs_json n))
stairs_plain zero = tt
stairs_plain (suc n) = one_more_plain (stairs_json n) (stair_json n) (stairs_plain n) (tt, (tt, ((tt, (tt, tt)), (tt, tt))))

location_plain : (name : List ℕ) (id region : ℕ) → IsPlain (location_json name id region)
location_plain name id region = (tt, (tt, (tt, (tt, tt))))

boxes_plain : (n : ℕ) → ItemsArePlain (items_of (boxes_json n))
boxes_plain zero = tt
boxes_plain (suc n) =
    two_more_plain (boxes_json n) (box_json (2 * n + 1) n) (box_json (2 * n + 2) n) (boxes_plain n) (location_plain (codes "Box " ++ decimal (2 * n + 1)) (2 * n + 1) n)
    (location_plain (codes "Box " ++ decimal (2 * n + 2)) (2 * n + 2) n)

world_plain : (gears : ℕ) → IsPlain (world_json gears)
world_plain gears =
    let goal : IsPlain goal_json = ((tt, tt), tt) in
    let items : IsPlain items_json = ((tt, (tt, (tt, tt))), ((tt, (tt, (tt, tt))), tt)) in
    let pool : IsPlain (pool_json gears) = (tt, (tt, tt)) in
    let bell = location_plain (codes "Bell") (2 * gears + 1) gears in
    let locations = one_more_plain (boxes_json gears) (bell_json gears) (boxes_plain gears) bell in
    (stairs_plain gears, (tt, (tt, (tt, (goal, (items, (locations, ((pool, tt), (floors_plain (gears + 1), tt)))))))))

players_plain : (file : List ℕ) → IsPlain (players_json file)
players_plain file = (tt, ((((tt, tt), (tt, tt)), tt), tt))

-- ---- how deep they nest

abbrev IsShallow : ℕ → Type 0
IsShallow gears = depth (world_json gears) ≡ 4

all_shallow : UpTo IsShallow 20
all_shallow = ((((((((((((((((((((tt, refl), refl), refl), refl), refl), refl), refl), refl), refl), refl), refl), refl), refl), refl), refl), refl), refl), refl), refl), refl)

world_shallow : (gears : ℕ) → IsSize gears → depth (world_json gears) ≤ max_depth
world_shallow gears size = let deep : depth (world_json gears) ≡ 4 = each IsShallow gears all_shallow size in omega arith

players_shallow : (file : List ℕ) → depth (players_json file) ≤ max_depth
players_shallow file = let deep : depth (players_json file) ≡ 4 = refl in omega arith

-- ---- the files

-- what is written of a tree is read as the tree
read_back : (j : Json) (bytes : List ℕ) → IsWritable j → IsOrdered j → IsPlain j → depth j ≤ max_depth → IsUtf8 bytes → bytes ≡ spelling j → IsJudged bytes j
read_back j bytes writable ordered plain shallow utf8 is = record { read = record { utf8 = utf8; is = ap reading is ∙ reads_back j writable ordered plain shallow }; deep = shallow }

pub world_stands : {E : Type 0} (gears : ℕ) (tree : Json) (r : Result (List ℕ) E) → IsSize gears → tree ≡ world_json gears → IsWritable tree → IfOk r (λ b. b ≡ spelling tree) → IfOk r (λ b. IsUtf8 b)
    → IfOk r (λ b. WorldOf b (Ok (clockwork gears)))
world_stands gears tree (Ok b) size is writable text utf8 =
    let j = world_json gears in
    inr (inr (j, read_back j b (subst IsWritable is writable) (world_ordered gears) (world_plain gears) (world_shallow gears size) utf8 (text ∙ ap spelling is), accepted gears size))
world_stands gears tree (Err e) size is writable text utf8 = tt

pub players_stand : {E : Type 0} (file : List ℕ) (tree : Json) (r : Result (List ℕ) E) → IsFileName file → tree ≡ players_json file → IsWritable tree → IfOk r (λ b. b ≡ spelling tree) → IfOk r (λ b. IsUtf8 b)
    → IfOk r (λ b. PlayersOf b (Ok (players file)))
players_stand file tree (Ok b) named is writable text utf8 =
    let j = players_json file in
    inr (inr (j, read_back j b (subst IsWritable is writable) (players_ordered file) (players_plain file) (players_shallow file) utf8 (text ∙ ap spelling is), players_accepted file named))
players_stand file tree (Err e) named is writable text utf8 = tt
