-- Joined worlds. Places and items are numbered over all slots, slot by slot: a slot's places are its regions in table
-- order and then its locations.
use Rattle.std.specs.Prelude.{◌≡◌, ℕ, zero, suc, ◌+◌, ◌*◌, ◌<◌, ◌≤◌, List, [], ◌∷◌, Bool, true, Option, Some, None, All, length, slice_get, sum_by}
use Rattle.std.specs.List.Sorted.{IsStrictlyIncreasing}
use Rattle.mw_model.specs.Seed.{RoomOptions}
use Rattle.mw_multi.specs.World.{World, Item, PoolEntry, place_count}
use Rattle.mw_multi.specs.WorldKept.{IsWorld, copies, has_id}
use Rattle.mw_multi.specs.PlayersKept.{IsSlotNumber}
use Rattle.mw_multi.specs.Files.{no_world}
use Rattle.mw_multi.specs.declared.access.Access.{Access}

-- a player's slot: its name in each team, its tables, the numbers of its first place and of its first item; for each
-- item and for each location, whether the options list it; the items to begin with; what links leave of its world's pool;
-- and how much of it has to be reachable
pub record Slot : Type 0 where
  pub names : List (List ℕ)
  pub world : World
  pub first_place : ℕ
  pub first_item : ℕ
  pub local_items : List Bool
  pub non_local_items : List Bool
  pub exclude_locations : List Bool
  pub priority_locations : List Bool
  pub start : List PoolEntry
  pub pool : List PoolEntry
  pub access : Access

-- items that some slots share: the link's name, its members, and how many copies of each item there are for all of them
-- together
pub record Link : Type 0 where
  pub name : List ℕ
  pub members : List ℕ
  pub copies : List PoolEntry

-- the first slot has number 1, and the first link the number after the last slot
pub record Joint : Type 0 where
  pub teams : ℕ
  pub room : RoomOptions
  pub slots : List Slot
  pub links : List Link

-- the slot of a number, which counts from 1
abbrev pub slot_at : List Slot → ℕ → Option Slot
slot_at slots zero = None
slot_at slots (suc before) = slice_get slots before

abbrev pub slot_places : Slot → ℕ
slot_places s = place_count s.world

abbrev pub slot_items : Slot → ℕ
slot_items s = length s.world.items

-- how many places and how many items there are
abbrev pub place_total : List Slot → ℕ
place_total slots = sum_by slot_places slots

abbrev pub item_total : List Slot → ℕ
item_total slots = sum_by slot_items slots

-- each slot's numbers begin where those of the slot before end, the first slot's with these
abbrev pub AreNumbered : ℕ → ℕ → List Slot → Type 0
AreNumbered place item [] = Unit {0}
AreNumbered place item (s ∷ ss) =
    (s.first_place ≡ place) × (s.first_item ≡ item)
    × AreNumbered (place + slot_places s) (item + slot_items s) ss

-- an item of these, some times
abbrev pub StartFits : List Item → PoolEntry → Type 0
StartFits items s = s.item < length items

-- some copies of an item with an id, or none
pub record CopiesKept (items : List Item) (p : PoolEntry) : Type 0 where
  pub item : has_id (slice_get items p.item) ≡ true
  pub few : p.count ≤ 10000

-- what is left of a pool: at most 10,000 copies together
pub record PoolLeft (items : List Item) (pool : List PoolEntry) : Type 0 where
  pub each : All (CopiesKept items) pool
  pub together : sum_by copies pool ≤ 10000

-- what a slot keeps: the options' flags are one for each item or location, and at most 256 items are there to begin with
pub record SlotKept (s : Slot) : Type 0 where
  pub world : IsWorld s.world
  pub local_items : length s.local_items ≡ slot_items s
  pub non_local_items : length s.non_local_items ≡ slot_items s
  pub exclude_locations : length s.exclude_locations ≡ length s.world.locations
  pub priority_locations : length s.priority_locations ≡ length s.world.locations
  pub start : All (StartFits s.world.items) s.start
  pub few : sum_by copies s.start ≤ 256
  pub pool : PoolLeft s.world.items s.pool

-- the tables of a slot, and empty ones where there is no slot
abbrev pub world_of : Option Slot → World
world_of None = no_world
world_of (Some s) = s.world

-- the slot of the first of these numbers
abbrev pub first_slot : List Slot → List ℕ → Option Slot
first_slot slots [] = None
first_slot slots (m ∷ ms) = slot_at slots m

-- the slot of this number has these tables
abbrev pub HasWorld : List Slot → World → ℕ → Type 0
HasWorld slots w number = world_of (slot_at slots number) ≡ w

-- a link's world is the one world of its members, at least two slots in ascending order, and what they share are items of
-- that world with an id
pub record LinkKept (slots : List Slot) (l : Link) : Type 0 where
  pub several : 2 ≤ length l.members
  pub ascend : IsStrictlyIncreasing l.members
  pub members : All (IsSlotNumber (length slots)) l.members
  pub world : All (HasWorld slots (world_of (first_slot slots l.members))) l.members
  pub copies : All (CopiesKept (world_of (first_slot slots l.members)).items) l.copies

-- how many copies a slot's pool has, and how many owners' copies a link has
abbrev pub slot_copies : Slot → ℕ
slot_copies s = sum_by copies s.pool

abbrev pub link_copies : Link → ℕ
link_copies l = length l.members * sum_by copies l.copies

-- what a joint keeps; each copy of a link was one of each member's pool
pub record IsJoint (j : Joint) : Type 0 where
  pub some : 1 ≤ length j.slots
  pub few : length j.slots ≤ 1024
  pub each : All SlotKept j.slots
  pub numbered : AreNumbered 0 0 j.slots
  pub places : place_total j.slots ≤ 200000
  pub few_receivers : length j.slots + length j.links ≤ 1024
  pub links : All (LinkKept j.slots) j.links
  pub together : sum_by slot_copies j.slots + sum_by link_copies j.links ≤ 10000 * length j.slots
