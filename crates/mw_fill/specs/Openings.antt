-- The locations with an id, and which copies each accepts.
use Rattle.std.specs.Prelude.{ℕ, ◌==◌, List, [], ◌∷◌, ◌++◌, Bool, true, false, not, ◌||◌, filter, is_some, slice_index_or, if◌then◌else◌}
use Rattle.mw_multi.specs.World.{Location}
use Rattle.mw_multi.specs.Joint.{Slot, Joint}
use Rattle.mw_multi.specs.Steps.{location_place}
use Rattle.mw_multi.specs.declared.location.LocKind.{LocKind}
use Rattle.mw_multi.specs.declared.location.LocKind.TheVariants.{Default, Priority, Excluded}
use Rattle.mw_multi.specs.Numbered.{each_numbered}
use Rattle.mw_fill.specs.Copies.{ItemCopy}
use Rattle.mw_fill.specs.declared.locality.Locality.{Locality}
use Rattle.mw_fill.specs.declared.locality.Locality.TheVariants.{Anywhere, AtHome, Abroad}

-- a location with an id: its place, its slot's number, its kind, and the item of its slot that
-- fills it where nothing else does
pub record Opening : Type 0 where
  pub place : ℕ
  pub slot : ℕ
  pub kind : LocKind
  pub filler : ℕ

abbrev pub is_excluded : LocKind → Bool
is_excluded Default = false
is_excluded Priority = false
is_excluded Excluded = true

abbrev pub is_priority : LocKind → Bool
is_priority Default = false
is_priority Priority = true
is_priority Excluded = false

abbrev pub is_default : LocKind → Bool
is_default Default = true
is_default Priority = false
is_default Excluded = false

-- whether the second kind is the first
abbrev pub is_kind : LocKind → LocKind → Bool
is_kind Default kind = is_default kind
is_kind Priority kind = is_priority kind
is_kind Excluded kind = is_excluded kind

-- excluded where an option or the table says so, else priority where an option or the table says
-- so, else default
abbrev pub kind_of : Bool → Bool → LocKind → LocKind
kind_of exclude priority table =
    if exclude || is_excluded table then Excluded
    else (if priority || is_priority table then Priority else Default)

-- the location of the slot with this index
abbrev pub opening_of : ℕ → Slot → ℕ → Location → Opening
opening_of number s index l = record {
  place = location_place s index;
  slot = number;
  kind = kind_of (slice_index_or s.exclude_locations index false)
      (slice_index_or s.priority_locations index false) l.kind;
  filler = s.world.filler;
}

-- the same where it has an id
abbrev pub opening_at : ℕ → Slot → ℕ → Location → List Opening
opening_at number s index l = if is_some l.id then opening_of number s index l ∷ [] else []

abbrev pub slot_openings : ℕ → Slot → List Opening
slot_openings number s = each_numbered (opening_at number s) 0 s.world.locations

-- the locations with an id, by slot and table order
abbrev pub openings_of : Joint → List Opening
openings_of joint = each_numbered slot_openings 1 joint.slots

-- those of a kind
abbrev pub has_kind : LocKind → Opening → Bool
has_kind kind opening = is_kind kind opening.kind

abbrev pub of_kind : LocKind → List Opening → List Opening
of_kind kind openings = filter (has_kind kind) openings

-- priority, then default
abbrev pub regular : List Opening → List Opening
regular openings = of_kind Priority openings ++ of_kind Default openings

-- excluded, then priority, then default
abbrev pub all_kinds : List Opening → List Opening
all_kinds openings = of_kind Excluded openings ++ regular openings

-- an item may stand there, the location being its receiver's own or not
abbrev pub may_stand : Locality → Bool → Bool
may_stand Anywhere own = true
may_stand AtHome own = own
may_stand Abroad own = not own

-- the location accepts the copy
abbrev pub accepts : ItemCopy → Opening → Bool
accepts copy opening = may_stand copy.locality (copy.receiver == opening.slot)
