-- For proofs alone: the locations with an id of joined tables, in ascending order, beside the
-- entries of a seed file.
use Rattle.std.specs.Prelude.{◌==◌, ◌&&◌, ℕ, ℤ, pos, List, [], ◌∷◌, Bool, Option, Some, None, is_some, map, option_map, if◌then◌else◌}
use Rattle.std.specs.Ordering.{int_eq}
use Rattle.std.specs.List.Sorted.{IsPermutation}
use Rattle.mw_model.specs.Seed.{Held}
use Rattle.mw_multi.specs.World.{Item, Location}
use Rattle.mw_multi.specs.Joint.{Slot}
use Rattle.mw_multi.specs.Numbered.{each_numbered}
use Rattle.mw_model.specs.Ascending.{Ascend}
use Rattle.mw_multidata.specs.SeedKept.{held_cmp}
use Rattle.mw_seeds.specs.Agreeing.{index_among, is_in_both}
use Rattle.mw_seeds.specs.FilePuts.{catalog_at, earlier_of}

-- a location by its slot's number and its id
pub record Key : Type 0 where
  pub slot : ℕ
  pub location : ℤ

-- some entry of the location
abbrev pub entry_at : ℕ → ℤ → Held
entry_at s l = record { slot = s; location = l; item = pos 0; receiver = 0; flags = 0 }

abbrev pub as_held : Key → Held
as_held k = entry_at k.slot k.location

-- the key of a location of the slot of this number, where it has an id
abbrev pub key_where : ℕ → Option ℤ → List Key
key_where number None = []
key_where number (Some id) = record { slot = number; location = id } ∷ []

abbrev pub location_key : ℕ → ℕ → Location → List Key
location_key number index l = key_where number l.id

abbrev pub slot_keys : ℕ → Slot → List Key
slot_keys number s = each_numbered (location_key number) 0 s.world.locations

-- by slot and table order
abbrev pub all_keys : List Slot → List Key
all_keys slots = each_numbered slot_keys 1 slots

-- the same, ascending
pub record AreKeys (slots : List Slot) (keys : List Key) : Type 0 where
  pub same : IsPermutation (all_keys slots) keys
  pub ascend : Ascend held_cmp (map as_held keys)

-- at one location, with an item that fits
abbrev pub fits_at : (Held → Bool) → Held → Held → Bool
fits_at fits d h = (d.slot == h.slot) && (int_eq d.location h.location && fits h)

-- the first location that only one of the two has, or whose entry doesn't fit
abbrev pub first_other : (Held → Bool) → List Held → List Held → Option Held
first_other fits [] [] = None
first_other fits [] (h ∷ hs) = Some h
first_other fits (d ∷ ds) [] = Some d
first_other fits (d ∷ ds) (h ∷ hs) =
    if fits_at fits d h then first_other fits ds hs else Some (earlier_of d h)

abbrev pub key_of : Held → Key
key_of h = record { slot = h.slot; location = h.location }

-- the entry's receiver is one in tables of so many slots and in a file of so many, and its item stands in these, with its
-- flags
abbrev pub fits_among : List (List Item) → ℕ → ℕ → Held → Bool
fits_among catalogs slots many h =
    is_in_both slots many h.receiver
    && is_some (index_among h (catalog_at catalogs h.receiver))

-- the same by the keys
abbrev pub first_other_key : List (List Item) → ℕ → ℕ → List Key → List Held → Option Key
first_other_key catalogs slots many keys held =
    option_map key_of (first_other (fits_among catalogs slots many) (map as_held keys) held)
