-- The copies of the pools, and where each may stand.
use Rattle.std.specs.Prelude.{ℕ, suc, ◌++◌, List, [], Option, Some, None, Bool, true, false, ◌&&◌, flat_map, length, nat_lt, replicate, slice_get, slice_index_or, if◌then◌else◌}
use Rattle.mw_multi.specs.World.{Item, PoolEntry}
use Rattle.mw_multi.specs.RulesKept.{is_progression}
use Rattle.mw_multi.specs.Joint.{Slot, Link, Joint, world_of, first_slot}
use Rattle.mw_multi.specs.declared.item.Class.{Class}
use Rattle.mw_multi.specs.declared.item.Class.TheVariants.{Progression, Useful, Filler, Trap}
use Rattle.mw_multi.specs.Numbered.{each_numbered}
use Rattle.mw_multi.specs.Placement.{receiver_numbers}
use Rattle.mw_reach.specs.Reach.{times_in}
use Rattle.mw_fill.specs.declared.group.Group.{Group}
use Rattle.mw_fill.specs.declared.group.Group.TheVariants.{Asked, Helping, Filling}
use Rattle.mw_fill.specs.declared.locality.Locality.{Locality}
use Rattle.mw_fill.specs.declared.locality.Locality.TheVariants.{Anywhere, AtHome, Abroad}

-- a copy of an item: its receiver's number, the item's index in the receiver's world, and where it
-- may stand
pub record ItemCopy : Type 0 where
  pub receiver : ℕ
  pub item : ℕ
  pub locality : Locality

abbrev pub is_useful : Class → Bool
is_useful Progression = false
is_useful Useful = true
is_useful Filler = false
is_useful Trap = false

abbrev pub is_filling : Class → Bool
is_filling Progression = false
is_filling Useful = false
is_filling Filler = true
is_filling Trap = true

-- the items that rules ask for, the useful ones, and filler and traps
abbrev pub is_of : Group → Class → Bool
is_of Asked class = is_progression class
is_of Helping class = is_useful class
is_of Filling class = is_filling class

abbrev pub item_is_of : Group → Option Item → Bool
item_is_of group None = false
item_is_of group (Some item) = is_of group item.class

-- a local item stays at home; one that is non-local alone stands abroad, where there are slots
-- other than its own
abbrev pub locality_of : Bool → Bool → Bool → Locality
locality_of many local non_local =
    if local then AtHome else (if many && non_local then Abroad else Anywhere)

-- a copy of an item of the slot of this number
abbrev pub copy_of : Bool → ℕ → Slot → ℕ → ItemCopy
copy_of many number s item = record {
  receiver = number;
  item = item;
  locality = locality_of many (slice_index_or s.local_items item false)
      (slice_index_or s.non_local_items item false);
}

-- the copies of a pool entry, where its item is of the group
abbrev pub entry_copies : Group → Bool → ℕ → Slot → PoolEntry → List ItemCopy
entry_copies group many number s e =
    if item_is_of group (slice_get s.world.items e.item)
    then replicate e.count (copy_of many number s e.item) else []

-- the copies of a slot's pool, entry by entry
abbrev pub slot_copies : Group → Bool → ℕ → Slot → List ItemCopy
slot_copies group many number s = flat_map (entry_copies group many number s) s.pool

-- a copy of an item of the link of this number; it may stand anywhere
abbrev pub shared_copy : ℕ → ℕ → ItemCopy
shared_copy number item = record { receiver = number; item = item; locality = Anywhere }

-- the copies of a link's entry, where its item is of the group
abbrev pub shared_copies : Group → List Item → ℕ → PoolEntry → List ItemCopy
shared_copies group items number e =
    if item_is_of group (slice_get items e.item)
    then replicate e.count (shared_copy number e.item) else []

-- the copies of the link of this number, item by item
abbrev pub link_copies : Group → List Slot → ℕ → Link → List ItemCopy
link_copies group slots number l =
    flat_map (shared_copies group (world_of (first_slot slots l.members)).items number) l.copies

-- there are slots other than one's own
abbrev pub has_others : Joint → Bool
has_others joint = nat_lt 1 (length joint.slots)

-- the copies of the group, by slot, pool entry and copy, then by link, item and copy
abbrev pub copies_of : Group → Joint → List ItemCopy
copies_of group joint =
    each_numbered (slot_copies group (has_others joint)) 1 joint.slots
    ++ each_numbered (link_copies group joint.slots) (suc (length joint.slots)) joint.links

-- ---- numbers over all slots

-- the numbers over all slots of the copy's item, one for each owner of its receiver; none where it
-- is no progression item
abbrev pub copy_numbers : Joint → ItemCopy → List ℕ
copy_numbers joint copy = receiver_numbers joint copy.receiver copy.item

-- those of these copies, copy by copy
abbrev pub all_numbers : Joint → List ItemCopy → List ℕ
all_numbers joint copies = flat_map (copy_numbers joint) copies

-- how many of the item with this number these copies are, each once for each owner of its receiver
abbrev pub copies_count : Joint → List ItemCopy → ℕ → ℕ
copies_count joint copies n = times_in n (all_numbers joint copies)
