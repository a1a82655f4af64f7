-- The names of a seed file that has its shape: the first one that stands twice, isn't there, or stands out of order.
use Rattle.std.specs.Prelude.{ℕ, ℤ, zero, suc, ◌+◌, ◌-◌, ◌==◌, ◌&&◌, ◌||◌, not, nat_le, nat_lt, int_lt, List, [], ◌∷◌, ◌++◌, Bool, true, false, Option, Some, None, Result, Ok, bytes_eq, slice_get, codes, length, map, if◌then◌else◌}
use Rattle.std.specs.Ordering.{int_eq}
use Rattle.mw_model.specs.Seed.{Seed, Slot, Group, StartItem, Game, NamedId, Held, Spot, slot_of}
use Rattle.mw_json.specs.Grammar.{Breach, ◌>>=◌, refused, under}
use Rattle.mw_json.specs.declared.refusal.Kind.{Kind}
use Rattle.mw_json.specs.declared.refusal.Kind.TheVariants.{DuplicateName, DuplicateId, UnknownName, WrongOrder}
use Rattle.mw_json.specs.declared.refusal.Step.TheVariants.{Name, Index}

-- nothing to refuse, or the first breach
abbrev pub Check : Type 0
Check = Result (Unit {0}) Breach

-- refused in this way where the test fails
abbrev pub demand : Kind → Bool → Check
demand kind holds = if holds then Ok tt else refused kind

-- what has to be there
abbrev pub known : {A : Type 0} → Option A → Result A Breach
known (Some x) = Ok x
known None = refused UnknownName

-- ---- games

abbrev pub has_id : List NamedId → ℤ → Bool
has_id [] id = false
has_id (n ∷ ns) id = int_eq n.id id || has_id ns id

-- each id differs from those before it
abbrev pub ids_differ : List NamedId → List NamedId → Check
ids_differ before [] = Ok tt
ids_differ before (n ∷ ns) = do
  differs ← under (Name n.name) (demand DuplicateId (not (has_id before n.id)))
  ids_differ (before ++ n ∷ []) ns

-- in each of its two tables
unfoldable pub game_named : Game → Result Game Breach
game_named g = do
  items ← under (Name (codes "item_name_to_id")) (ids_differ [] g.item_name_to_id)
  locations ← under (Name (codes "location_name_to_id")) (ids_differ [] g.location_name_to_id)
  Ok g

abbrev pub games_named : List Game → Result (List Game) Breach
games_named [] = Ok []
games_named (g ∷ gs) = do
  first ← under (Name g.name) (game_named g)
  others ← games_named gs
  Ok (first ∷ others)

-- the game of a name
abbrev pub find_game : List Game → List ℕ → Option Game
find_game [] name = None
find_game (g ∷ gs) name = if bytes_eq g.name name then Some g else find_game gs name

-- ---- slots

abbrev pub has_name : List (List ℕ) → List ℕ → Bool
has_name [] name = false
has_name (n ∷ ns) name = bytes_eq n name || has_name ns name

-- each name differs from those before it; the first of these stands at this index
abbrev pub names_differ : List (List ℕ) → ℕ → List (List ℕ) → Check
names_differ before i [] = Ok tt
names_differ before i (n ∷ ns) = do
  differs ← under (Index i) (demand DuplicateName (not (has_name before n)))
  names_differ (before ++ n ∷ []) (i + 1) ns

-- each starting item is of the game
abbrev pub start_named : Game → ℕ → List StartItem → Check
start_named game i [] = Ok tt
start_named game i (s ∷ ss) = do
  there ← under (Index i)
      (under (Index 0) (demand UnknownName (has_id game.item_name_to_id s.item)))
  start_named game (i + 1) ss

-- the names of all slots, in order
abbrev pub all_names : List Slot → List (List ℕ)
all_names [] = []
all_names (s ∷ ss) = s.names ++ all_names ss

-- the game that a slot plays, after these slots
unfoldable pub slot_named : List Game → List Slot → Slot → Result Game Breach
slot_named games earlier s = do
  differ ← under (Name (codes "names")) (names_differ (all_names earlier) 0 s.names)
  game ← under (Name (codes "game")) (known (find_game games s.game))
  start ← under (Name (codes "start")) (start_named game 0 s.start)
  Ok game

-- the games that the slots play, in order
abbrev pub slots_named : List Game → List Slot → ℕ → List Slot → Result (List Game) Breach
slots_named games earlier i [] = Ok []
slots_named games earlier i (s ∷ ss) = do
  first ← under (Index i) (slot_named games earlier s)
  others ← slots_named games (earlier ++ s ∷ []) (i + 1) ss
  Ok (first ∷ others)

-- the game that the slot of a number plays; numbers count from 1
abbrev pub played_by : List Game → ℕ → Option Game
played_by played zero = None
played_by played (suc before) = slice_get played before

-- ---- groups

abbrev pub group_name : Group → List ℕ
group_name g = g.name

-- the slot is there and plays the game of this name
abbrev pub plays_game : Option Slot → List ℕ → Bool
plays_game (Some s) name = bytes_eq s.game name
plays_game None name = false

abbrev pub is_above : Option ℕ → ℕ → Bool
is_above None number = true
is_above (Some before) number = nat_lt before number

-- a slot of the game, above the member before it
unfoldable pub member_named : Seed → List ℕ → Option ℕ → ℕ → Check
member_named seed game before number = do
  plays ← demand UnknownName (plays_game (slot_of seed number) game)
  demand WrongOrder (is_above before number)

abbrev pub members_named : Seed → List ℕ → Option ℕ → ℕ → List ℕ → Check
members_named seed game before i [] = Ok tt
members_named seed game before i (number ∷ numbers) = do
  first ← under (Index i) (member_named seed game before number)
  members_named seed game (Some number) (i + 1) numbers

-- the names of all players and of these groups
abbrev pub names_with : Seed → List Group → List (List ℕ)
names_with seed groups = all_names seed.slots ++ map group_name groups

-- the game of a group, after these groups
unfoldable pub group_named : List Game → Seed → List Group → Group → Result Game Breach
group_named games seed earlier g = do
  differs ← under (Name (codes "name"))
      (demand DuplicateName (not (has_name (names_with seed earlier) g.name)))
  game ← under (Name (codes "game")) (known (find_game games g.game))
  numbers ← under (Name (codes "members")) (members_named seed g.game None 0 g.members)
  Ok game

-- the games of the groups, in order
abbrev pub groups_named : List Game → Seed → List Group → ℕ → List Group
    → Result (List Game) Breach
groups_named games seed earlier i [] = Ok []
groups_named games seed earlier i (g ∷ gs) = do
  first ← under (Index i) (group_named games seed earlier g)
  others ← groups_named games seed (earlier ++ g ∷ []) (i + 1) gs
  Ok (first ∷ others)

-- the game of the receiver of a number: a slot or, numbered on from the slots, a group
abbrev pub received_by : List Game → List Game → ℕ → Option Game
received_by played grouped number =
    if nat_le number (length played) then played_by played number
    else slice_get grouped (number - suc (length played))

-- ---- locations

-- by slot, then by location
abbrev pub comes_after : Option Held → Held → Bool
comes_after None h = true
comes_after (Some before) h =
    nat_lt before.slot h.slot || ((before.slot == h.slot) && int_lt before.location h.location)

-- the receiver is judged before the item that it receives
unfoldable pub held_named : List Game → List Game → Option Held → Held → Check
held_named played grouped before h = do
  finder ← under (Index 0) (known (played_by played h.slot))
  location ← under (Index 1) (demand UnknownName (has_id finder.location_name_to_id h.location))
  receiver ← under (Index 3) (known (received_by played grouped h.receiver))
  held ← under (Index 2) (demand UnknownName (has_id receiver.item_name_to_id h.item))
  demand WrongOrder (comes_after before h)

abbrev pub locations_named : List Game → List Game → Option Held → ℕ → List Held → Check
locations_named played grouped before i [] = Ok tt
locations_named played grouped before i (h ∷ hs) = do
  first ← under (Index i) (held_named played grouped before h)
  locations_named played grouped (Some h) (i + 1) hs

-- ---- spheres

unfoldable pub spot_named : List Game → Spot → Check
spot_named played s = do
  game ← under (Index 0) (known (played_by played s.slot))
  Ok tt

abbrev pub sphere_named : List Game → ℕ → List Spot → Check
sphere_named played i [] = Ok tt
sphere_named played i (s ∷ ss) = do
  first ← under (Index i) (spot_named played s)
  sphere_named played (i + 1) ss

abbrev pub spheres_named : List Game → ℕ → List (List Spot) → Check
spheres_named played i [] = Ok tt
spheres_named played i (s ∷ ss) = do
  first ← under (Index i) (sphere_named played 0 s)
  spheres_named played (i + 1) ss

-- ---- the whole

unfoldable pub names_named : Seed → Check
names_named seed = do
  games ← under (Name (codes "games")) (games_named seed.games)
  played ← under (Name (codes "slots")) (slots_named games [] 0 seed.slots)
  grouped ← under (Name (codes "groups")) (groups_named games seed [] 0 seed.groups)
  locations ← under (Name (codes "locations"))
      (locations_named played grouped None 0 seed.locations)
  under (Name (codes "spheres")) (spheres_named played 0 seed.spheres)
