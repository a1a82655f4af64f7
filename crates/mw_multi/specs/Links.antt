-- What links take from the pools of their members.
use Rattle.std.specs.Prelude.{◌≡◌, ℕ, zero, suc, ◌-◌, ◌==◌, ◌≤◌, true, min, List, [], ◌∷◌, All, length, map, slice_get, slice_index_or, slice_set, sum_by, if◌then◌else◌}
use Rattle.std.specs.List.Sorted.{IsStrictlyIncreasing}
use Rattle.mw_multi.specs.World.{World, Item, PoolEntry}
use Rattle.mw_multi.specs.Numbered.{each_numbered}
use Rattle.mw_multi.specs.WorldKept.{has_id}
use Rattle.mw_multi.specs.PlayersKept.{IsSlotNumber}
use Rattle.mw_multi.specs.Joint.{Slot, Link, HasWorld, world_of, first_slot}

-- ---- copies

-- how many copies of an item an entry has, and how many entries have
abbrev pub entry_copies : ℕ → PoolEntry → ℕ
entry_copies item e = if e.item == item then e.count else 0

abbrev pub copies_in : List PoolEntry → ℕ → ℕ
copies_in entries item = sum_by (entry_copies item) entries

-- the slot has all of its world's pool
abbrev pub HasWholePool : Slot → Type 0
HasWholePool s = s.pool ≡ s.world.pool

-- the item of this number has an id
abbrev pub HasId : List Item → ℕ → Type 0
HasId items i = has_id (slice_get items i) ≡ true

-- ---- what is left

-- a number of a row, 0 past its end
abbrev pub row_at : List ℕ → ℕ → ℕ
row_at row item = slice_index_or row item 0

-- for each item of a world, how many copies its pool has
abbrev pub item_copies : List PoolEntry → ℕ → Item → List ℕ
item_copies pool number item = copies_in pool number ∷ []

abbrev pub pool_row : World → List ℕ
pool_row w = each_numbered (item_copies w.pool) 0 w.items

-- for each slot, how many copies of each item its world's pool has
abbrev pub slot_row : Slot → List ℕ
slot_row s = pool_row s.world

abbrev pub pool_rows : List Slot → List (List ℕ)
pool_rows slots = map slot_row slots

-- how many copies of an item are left in the pool of the slot of a number
abbrev pub left_of : List (List ℕ) → ℕ → ℕ → ℕ
left_of left item zero = 0
left_of left item (suc before) = row_at (slice_index_or left before []) item

-- so many copies of an item fewer
abbrev pub fewer : ℕ → ℕ → List ℕ → List ℕ
fewer item n row = slice_set row item (row_at row item - n)

-- the last so many copies of an item leave the pool of the slot of a number
abbrev pub taken_from : List (List ℕ) → ℕ → ℕ → ℕ → List (List ℕ)
taken_from left item n zero = left
taken_from left item n (suc before) =
    slice_set left before (fewer item n (slice_index_or left before []))

-- and those of the slots of these numbers
abbrev pub taken_from_each : List (List ℕ) → ℕ → ℕ → List ℕ → List (List ℕ)
taken_from_each left item n [] = left
taken_from_each left item n (m ∷ ms) = taken_from_each (taken_from left item n m) item n ms

-- ---- links

-- the least of a number and of these
abbrev pub least : ℕ → List ℕ → ℕ
least n [] = n
least n (m ∷ ms) = least (min n m) ms

-- the least number of copies of an item that is left in a member's pool
abbrev pub shared : List (List ℕ) → List ℕ → ℕ → ℕ
shared left [] item = 0
shared left (m ∷ ms) item = least (left_of left item m) (map (left_of left item) ms)

-- what is left when the members share an item: each gives as many copies as the one who has fewest
abbrev pub left_by_item : List (List ℕ) → List ℕ → ℕ → List (List ℕ)
left_by_item left members item = taken_from_each left item (shared left members item) members

-- what is left when they share these items, one after the other; where an item comes again, a member has none left
abbrev pub left_by_items : List (List ℕ) → List ℕ → List ℕ → List (List ℕ)
left_by_items left members [] = left
left_by_items left members (i ∷ is) = left_by_items (left_by_item left members i) members is

-- how many copies of each of these items they have together
abbrev pub shared_copies : List (List ℕ) → List ℕ → List ℕ → List PoolEntry
shared_copies left members [] = []
shared_copies left members (i ∷ is) =
    record { item = i; count = shared left members i }
    ∷ shared_copies (left_by_item left members i) members is

-- items that some slots share, by the items' numbers, with the link's name
pub record Sharing : Type 0 where
  pub name : List ℕ
  pub members : List ℕ
  pub items : List ℕ

-- at least two slots of one world in ascending order, and items of that world with an id
pub record SharingKept (slots : List Slot) (l : Sharing) : Type 0 where
  pub several : 2 ≤ length l.members
  pub ascend : IsStrictlyIncreasing l.members
  pub members : All (IsSlotNumber (length slots)) l.members
  pub world : All (HasWorld slots (world_of (first_slot slots l.members))) l.members
  pub items : All (HasId (world_of (first_slot slots l.members)).items) l.items

-- what is left after these, one after the other, and the link of each
abbrev pub left_by : List (List ℕ) → List Sharing → List (List ℕ)
left_by left [] = left
left_by left (l ∷ ls) = left_by (left_by_items left l.members l.items) ls

abbrev pub link_of : List (List ℕ) → Sharing → Link
link_of left l =
    record {
      name = l.name;
      members = l.members;
      copies = shared_copies left l.members l.items;
    }

abbrev pub links_of : List (List ℕ) → List Sharing → List Link
links_of left [] = []
links_of left (l ∷ ls) = link_of left l ∷ links_of (left_by_items left l.members l.items) ls

-- ---- pools

-- the first copies of a pool, as many of each item as a row has
abbrev pub first_copies : List ℕ → List PoolEntry → List PoolEntry
first_copies row [] = []
first_copies row (e ∷ es) =
    record { item = e.item; count = min e.count (row_at row e.item) }
    ∷ first_copies (fewer e.item e.count row) es

-- a slot whose pool has what a row leaves
abbrev pub with_left : List ℕ → Slot → Slot
with_left row s =
    record {
      names = s.names;
      world = s.world;
      first_place = s.first_place;
      first_item = s.first_item;
      local_items = s.local_items;
      non_local_items = s.non_local_items;
      exclude_locations = s.exclude_locations;
      priority_locations = s.priority_locations;
      start = s.start;
      pool = first_copies row s.world.pool;
      access = s.access;
    }

abbrev pub each_with_left : List (List ℕ) → List Slot → List Slot
each_with_left left [] = []
each_with_left [] (s ∷ ss) = s ∷ ss
each_with_left (row ∷ left) (s ∷ ss) = with_left row s ∷ each_with_left left ss

-- the slots after these; without any they are as they were
abbrev pub slots_after : List Slot → List Sharing → List Slot
slots_after slots [] = slots
slots_after slots (l ∷ ls) = each_with_left (left_by (pool_rows slots) (l ∷ ls)) slots

-- the links of these
abbrev pub links_among : List Slot → List Sharing → List Link
links_among slots ls = links_of (pool_rows slots) ls
