-- Whether joined tables and a seed file agree on who shares what, and on what stands where.
use Rattle.std.specs.Prelude.{◌≡◌, ◌==◌, ◌&&◌, ℕ, ℤ, List, Bool, true, false, Option, Some, None, is_some, length, map, nat_le, not, option_map, slice_get, if◌then◌else◌}
use Rattle.std.specs.Ordering.{nat_cmp, int_cmp, ordering_then}
use Rattle.std.specs.declared.cmp.Ordering.{Ordering}
use Rattle.std.specs.declared.cmp.Ordering.TheVariants.{Less}
use Rattle.mw_model.specs.Seed.{Seed, Group, Held, held_at}
use Rattle.mw_multi.specs.World.{Item}
use Rattle.mw_multi.specs.WorldKept.{item_id, location_id}
use Rattle.mw_multi.specs.Joint.{Slot, Link, Joint, first_slot}
use Rattle.mw_multi.specs.Placement.{slot_at, owners}
use Rattle.mw_multi.specs.Indexes.{index_of_id}
use Rattle.mw_seeds.specs.SeedFile.{class_flags}

-- the slot's world has a location with this id
abbrev pub has_location : ℤ → Option Slot → Bool
has_location id None = false
has_location id (Some s) = is_some (index_of_id (map location_id s.world.locations) id)

-- these are the flags of the item's class
abbrev pub has_flags : ℕ → Option Item → Bool
has_flags flags None = false
has_flags flags (Some i) = flags == class_flags i.class

abbrev pub where_flags : ℕ → List Item → Option ℕ → Option ℕ
where_flags flags items None = None
where_flags flags items (Some index) =
    if has_flags flags (slice_get items index) then Some index else None

-- where the item of an entry stands among these, if it has an id there and the entry's flags are
-- those of its class
abbrev pub index_among : Held → Option (List Item) → Option ℕ
index_among h None = None
index_among h (Some items) = where_flags h.flags items (index_of_id (map item_id items) h.item)

-- the items of a slot's world
abbrev pub slot_items : Slot → List Item
slot_items s = s.world.items

-- the first of a receiver's owners, whose world is the receiver's
abbrev pub first_owner : Joint → ℕ → Option Slot
first_owner joint receiver = first_slot joint.slots (owners joint receiver)

-- the same in its receiver's world
abbrev pub held_index : Joint → Held → Option ℕ
held_index joint h = index_among h (option_map slot_items (first_owner joint h.receiver))

-- a receiver's number is that of a slot in the tables, which have so many slots, and in the file, which has so many; or of
-- a link and a group, which then are numbered on from as many slots
abbrev pub is_in_both : ℕ → ℕ → ℕ → Bool
is_in_both slots many receiver =
    if nat_le receiver slots then nat_le receiver many else many == slots

-- the same, for such a receiver
abbrev pub fits_tables : Joint → ℕ → Held → Bool
fits_tables joint many h =
    is_in_both (length joint.slots) many h.receiver && is_some (held_index joint h)

-- neither has an entry for the location, or both have one, and the file's fits
abbrev pub agrees_with : (Held → Bool) → Bool → Option Held → Bool
agrees_with fits has None = not has
agrees_with fits has (Some h) = has && fits h

-- at a location of the slot of this number, by its id
abbrev pub agrees_at : Joint → Seed → ℕ → ℤ → Bool
agrees_at joint seed slot location =
    agrees_with (fits_tables joint (length seed.slots))
    (has_location location (slot_at joint.slots slot)) (held_at seed slot location)

-- they agree everywhere
abbrev pub EntriesAgree : Joint → Seed → Type 0
EntriesAgree joint seed = (slot : ℕ) (location : ℤ) → agrees_at joint seed slot location ≡ true

abbrev pub link_members : Link → List ℕ
link_members l = l.members

abbrev pub group_members : Group → List ℕ
group_members g = g.members

-- the file's groups have the members of the tables' links, in order
abbrev pub LinksAgree : Joint → Seed → Type 0
LinksAgree joint seed = map group_members seed.groups ≡ map link_members joint.links

pub record TablesAgree (joint : Joint) (seed : Seed) : Type 0 where
  pub links : LinksAgree joint seed
  pub entries : EntriesAgree joint seed

-- by slot, then by id
abbrev pub location_cmp : ℕ → ℤ → ℕ → ℤ → Ordering
location_cmp slot location other_slot other =
    ordering_then (nat_cmp slot other_slot) (int_cmp location other)

-- their links agree, and they don't agree there, and do at each location before
pub record IsFirstDifference (joint : Joint) (seed : Seed) (slot : ℕ) (location : ℤ) : Type 0 where
  pub links : LinksAgree joint seed
  pub differs : agrees_at joint seed slot location ≡ false
  pub earlier : (s : ℕ) (l : ℤ) → location_cmp s l slot location ≡ Less
      → agrees_at joint seed s l ≡ true
