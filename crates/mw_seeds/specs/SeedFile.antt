-- The seed of a joint, a seed's number, a placement and a sphere list.
use Rattle.std.specs.Prelude.{◌≡◌, ℕ, ℤ, List, [], ◌∷◌, Option, Some, None, All, Contains, decimal, flat_map, map, replicate, slice_get}
use Rattle.std.specs.Ordering.{nat_cmp, int_cmp, ordering_then}
use Rattle.std.specs.declared.cmp.Ordering.{Ordering}
use Rattle.std.specs.List.Sorted.{IsPermutation}
use Rattle.mw_model.specs.Seed.{Seed, Slot, Group, StartItem, Game, NamedId, Held, Spot}
use Rattle.mw_multi.specs.World.{World, Item, Location, PoolEntry}
use Rattle.mw_multi.specs.Joint as joined
use Rattle.mw_multi.specs.Steps.{location_place}
use Rattle.mw_multi.specs.Placement.{Put, item_at, what_stands}
use Rattle.mw_multi.specs.declared.item.Class.{Class}
use Rattle.mw_multi.specs.declared.item.Class.TheVariants.{Progression, Useful, Filler, Trap}
use Rattle.mw_multi.specs.Numbered.{each_numbered}
use Rattle.mw_model.specs.Ascending.{Ascend, NamesAscend}

-- ---- classes

-- progression 1, useful 2, trap 4, filler 0
abbrev pub class_flags : Class → ℕ
class_flags Progression = 1
class_flags Useful = 2
class_flags Filler = 0
class_flags Trap = 4

-- ---- games

-- a name under its id, where it has one
abbrev pub named_where : List ℕ → Option ℤ → List NamedId
named_where name None = []
named_where name (Some id) = record { name = name; id = id } ∷ []

-- the items, and the locations, with an id
abbrev pub item_entry : Item → List NamedId
item_entry i = named_where i.name i.id

abbrev pub location_entry : Location → List NamedId
location_entry l = named_where l.name l.id

abbrev pub entry_name : NamedId → List ℕ
entry_name n = n.name

abbrev pub game_name : Game → List ℕ
game_name g = g.name

-- the same entries, in byte order of their names
pub record IsTable (entries table : List NamedId) : Type 0 where
  pub same : IsPermutation entries table
  pub ascend : NamesAscend (map entry_name table)

-- a world's game, with the names of its items and of its locations with an id
pub record IsGameOf (w : World) (g : Game) : Type 0 where
  pub name : g.name ≡ w.game
  pub items : IsTable (flat_map item_entry w.items) g.item_name_to_id
  pub locations : IsTable (flat_map location_entry w.locations) g.location_name_to_id

-- it is the game of a slot's world
abbrev pub IsPlayed : List joined.Slot → Game → Type 0
IsPlayed slots g = (s : joined.Slot) × Contains slots s × IsGameOf s.world g

-- the slot's game is among them
abbrev pub HasGameOf : List Game → joined.Slot → Type 0
HasGameOf games s = Contains (map game_name games) s.world.game

-- the different games of the slots' worlds, in byte order
pub record AreGames (slots : List joined.Slot) (games : List Game) : Type 0 where
  pub ascend : NamesAscend (map game_name games)
  pub played : All (IsPlayed slots) games
  pub all : All (HasGameOf games) slots

-- ---- slots

-- an item with an id, with its flags
abbrev pub start_with : Option ℤ → Class → List StartItem
start_with None class = []
start_with (Some id) class = record { item = id; flags = class_flags class } ∷ []

abbrev pub start_of : Option Item → List StartItem
start_of None = []
start_of (Some i) = start_with i.id i.class

-- an entry's copies
abbrev pub start_copies : List Item → PoolEntry → List StartItem
start_copies items e = flat_map start_of (replicate e.count (slice_get items e.item))

-- the items to begin with, copies one after the other
abbrev pub start_items : joined.Slot → List StartItem
start_items s = flat_map (start_copies s.world.items) s.start

abbrev pub file_slot : joined.Slot → Slot
file_slot s = record { names = s.names; game = s.world.game; start = start_items s }

-- ---- groups

-- a link is a group of the game that its members play
abbrev pub file_group : List joined.Slot → joined.Link → Group
file_group slots l = record {
  name = l.name;
  game = (joined.world_of (joined.first_slot slots l.members)).game;
  members = l.members;
}

abbrev pub file_groups : joined.Joint → List Group
file_groups joint = map (file_group joint.slots) joint.links

-- ---- locations

-- an item with an id, for its receiver, at a location of the slot of this number
abbrev pub held_with : ℕ → ℤ → ℕ → Option ℤ → Class → List Held
held_with number location receiver None class = []
held_with number location receiver (Some id) class = record {
  slot = number;
  location = location;
  item = id;
  receiver = receiver;
  flags = class_flags class;
} ∷ []

abbrev pub held_item : ℕ → ℤ → ℕ → Option Item → List Held
held_item number location receiver None = []
held_item number location receiver (Some i) = held_with number location receiver i.id i.class

abbrev pub held_put : joined.Joint → ℕ → ℤ → Option Put → List Held
held_put joint number location None = []
held_put joint number location (Some put) =
    held_item number location put.receiver (item_at joint put.receiver put.item)

-- what stands at a location with an id
abbrev pub held_where : joined.Joint → ℕ → Option ℤ → Option Put → List Held
held_where joint number None put = []
held_where joint number (Some id) put = held_put joint number id put

-- what stands at the location with this index of the slot of this number, where this tells what
-- stands at each place
abbrev pub location_held : joined.Joint → (ℕ → Option Put) → ℕ → joined.Slot → ℕ
    → Location → List Held
location_held joint stands number s index l =
    held_where joint number l.id (stands (location_place s index))

abbrev pub slot_held : joined.Joint → (ℕ → Option Put) → ℕ → joined.Slot → List Held
slot_held joint stands number s =
    each_numbered (location_held joint stands number s) 0 s.world.locations

-- what stands at the locations with an id, by slot and table order
abbrev pub all_held : joined.Joint → (ℕ → Option Put) → List Held
all_held joint stands = each_numbered (slot_held joint stands) 1 joint.slots

-- by slot, then by location
abbrev pub held_cmp : Held → Held → Ordering
held_cmp a b = ordering_then (nat_cmp a.slot b.slot) (int_cmp a.location b.location)

-- the same entries, ascending by slot and then by location
pub record AreLocations (joint : joined.Joint) (puts : List Put) (held : List Held)
    : Type 0 where
  pub same : IsPermutation (all_held joint (what_stands puts)) held
  pub ascend : Ascend held_cmp held

-- ---- the whole

pub record SeedFile (joint : joined.Joint) (number : ℕ) (puts : List Put)
    (listed : List (List Spot)) (seed : Seed) : Type 0 where
  pub seed_name : seed.seed_name ≡ decimal number
  pub teams : seed.teams ≡ joint.teams
  pub server : seed.server ≡ joint.room
  pub games : AreGames joint.slots seed.games
  pub slots : seed.slots ≡ map file_slot joint.slots
  pub groups : seed.groups ≡ file_groups joint
  pub locations : AreLocations joint puts seed.locations
  pub spheres : seed.spheres ≡ listed
