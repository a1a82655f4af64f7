-- For proofs alone: what the entries of a seed file put at the locations of joined tables, and
-- where two lists of entries first differ.
use Rattle.std.specs.Prelude.{ℕ, zero, suc, ℤ, List, ◌++◌, map, slice_get, [], ◌∷◌, Option, Some, None, Bool, ◌==◌, ◌&&◌, if◌then◌else◌}
use Rattle.std.specs.Ordering.{int_eq, is_lt}
use Rattle.mw_model.specs.Seed.{Held, held_among}
use Rattle.mw_multi.specs.World.{Item, Location}
use Rattle.mw_multi.specs.Joint.{Slot, Link, Joint, world_of, first_slot}
use Rattle.mw_multi.specs.Steps.{location_place}
use Rattle.mw_multi.specs.Placement.{Put}
use Rattle.mw_multi.specs.Numbered.{each_numbered}
use Rattle.mw_multidata.specs.SeedKept.{held_cmp}
use Rattle.mw_seeds.specs.Agreeing.{index_among, slot_items}

-- the items for a receiver's number, which counts from 1
abbrev pub catalog_at : List (List Item) → ℕ → Option (List Item)
catalog_at catalogs zero = None
catalog_at catalogs (suc before) = slice_get catalogs before

-- the items of the world of a link's members
abbrev pub link_items : List Slot → Link → List Item
link_items slots l = (world_of (first_slot slots l.members)).items

-- for each receiver the items of its world
abbrev pub receiver_items : Joint → List (List Item)
receiver_items joint =
    map slot_items joint.slots ++ map (link_items joint.slots) joint.links

-- a slot's own filler at a place, the slot having this number
abbrev pub own_put : ℕ → Slot → ℕ → Put
own_put number s place = record { place = place; receiver = number; item = s.world.filler }

-- the item with this index for the entry's receiver, or else the own filler
abbrev pub put_or_own : ℕ → Slot → ℕ → Held → Option ℕ → Put
put_or_own number s place h None = own_put number s place
put_or_own number s place h (Some index) = record {
  place = place;
  receiver = h.receiver;
  item = index;
}

-- what an entry puts at a place of the slot of this number, or else its own filler
abbrev pub file_put : List (List Item) → ℕ → Slot → ℕ → Option Held → Put
file_put catalogs number s place None = own_put number s place
file_put catalogs number s place (Some h) =
    put_or_own number s place h (index_among h (catalog_at catalogs h.receiver))

-- the same at a location with an id
abbrev pub put_where : List (List Item) → List Held → ℕ → Slot → ℕ → Option ℤ → List Put
put_where catalogs held number s place None = []
put_where catalogs held number s place (Some id) =
    file_put catalogs number s place (held_among held number id) ∷ []

abbrev pub location_put : List (List Item) → List Held → ℕ → Slot → ℕ → Location → List Put
location_put catalogs held number s index l =
    put_where catalogs held number s (location_place s index) l.id

abbrev pub slot_puts : List (List Item) → List Held → ℕ → Slot → List Put
slot_puts catalogs held number s =
    each_numbered (location_put catalogs held number s) 0 s.world.locations

-- at each location with an id, by slot and table order
abbrev pub file_puts : Joint → List Held → List Put
file_puts joint held = each_numbered (slot_puts (receiver_items joint) held) 1 joint.slots

-- ---- two lists of entries

abbrev pub same_entry : Held → Held → Bool
same_entry a b =
    (a.slot == b.slot) &&
    (int_eq a.location b.location &&
    (int_eq a.item b.item && ((a.receiver == b.receiver) && (a.flags == b.flags))))

-- the one whose location comes first
abbrev pub earlier_of : Held → Held → Held
earlier_of a b = if is_lt (held_cmp b a) then b else a

-- the first entry in which they differ
abbrev pub first_apart : List Held → List Held → Option Held
first_apart [] [] = None
first_apart [] (h ∷ held) = Some h
first_apart (d ∷ due) [] = Some d
first_apart (d ∷ due) (h ∷ held) =
    if same_entry d h then first_apart due held else Some (earlier_of d h)
