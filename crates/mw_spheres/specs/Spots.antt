-- Locations by their spots, and what stands there.
use Rattle.std.specs.Prelude.{◌≡◌, ℕ, suc, ◌++◌, ◌<◌, List, [], ◌∷◌, Option, Some, None, Bool, flat_map, length, map, nat_lt}
use Rattle.std.specs.List.{range_with_len}
use Rattle.mw_model.specs.Seed.{Spot}
use Rattle.mw_rules.specs.Names.{is_among}
use Rattle.mw_rules.specs.Holds.{Places}
use Rattle.mw_multi.specs.Joint.{Slot, Joint, place_total}
use Rattle.mw_multi.specs.Steps.{location_place}
use Rattle.mw_multi.specs.Placement.{Put, slot_at, standing, numbers_at}
use Rattle.mw_multi.specs.Events.{with_events}
use Rattle.mw_reach.specs.Reach.{Placed}

-- the tables have the location
abbrev pub IsSpot : List Slot → Spot → Type 0
IsSpot slots spot =
    (s : Slot) × (slot_at slots spot.slot ≡ Some s) × (spot.index < length s.world.locations)

abbrev pub place_in : Option Slot → ℕ → ℕ
place_in None index = 0
place_in (Some s) index = location_place s index

-- the location's number over all slots
abbrev pub spot_place : List Slot → Spot → ℕ
spot_place slots spot = place_in (slot_at slots spot.slot) spot.index

abbrev pub spot_at : ℕ → ℕ → Spot
spot_at number index = record { slot = number; index = index }

-- the locations of the slot of this number, in table order
abbrev pub slot_spots : ℕ → Slot → List Spot
slot_spots number s = map (spot_at number) (range_with_len 0 (length s.world.locations))

-- the locations of these slots, the first of which has this number
abbrev pub spots_from : ℕ → List Slot → List Spot
spots_from number [] = []
spots_from number (s ∷ ss) = slot_spots number s ++ spots_from (suc number) ss

-- all locations, by slot and then in table order
abbrev pub spots_of : Joint → List Spot
spots_of joint = spots_from 1 joint.slots

-- one of these locations has the place
abbrev pub is_listed : List Slot → List Spot → Places
is_listed slots spots p = is_among (map (spot_place slots) spots) p

-- ---- what stands there

-- the numbers of the progression items at each place
abbrev pub table_of : Joint → List Put → Placed
table_of joint puts = map (standing joint puts) (range_with_len 0 (place_total joint.slots))

-- the same of a placement with the events
abbrev pub placement_table : Joint → List Put → Placed
placement_table joint puts = table_of joint (with_events joint puts)

-- a progression item stands at the place
abbrev pub holds_progression : Placed → ℕ → Bool
holds_progression table p = nat_lt 0 (length (numbers_at table p))

-- what stands at these locations
abbrev pub items_at : List Slot → Placed → List Spot → List ℕ
items_at slots table spots = flat_map (λ spot. numbers_at table (spot_place slots spot)) spots
