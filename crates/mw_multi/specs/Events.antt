-- The events of a joint: each stands at its event location.
use Rattle.std.specs.Prelude.{ℕ, suc, ◌++◌, List, [], ◌∷◌, Option, Some, None, Bool, true, not, filter, flat_map, is_some, length, map, replicate, if◌then◌else◌}
use Rattle.mw_multi.specs.World.{Location}
use Rattle.mw_multi.specs.Joint.{Slot, Joint}
use Rattle.mw_multi.specs.Steps.{location_place}
use Rattle.mw_multi.specs.Placement.{Put, Site, site_at}

-- an event location's event at a place of the slot of this number
abbrev pub event_at : ℕ → ℕ → Option ℕ → List Put
event_at number place None = []
event_at number place (Some event) = record { place = place; receiver = number; item = event } ∷ []

-- the events of these locations, the first of which stands at this place
abbrev pub events_among : ℕ → ℕ → List Location → List Put
events_among number place [] = []
events_among number place (l ∷ ls) =
    event_at number place l.event ++ events_among number (suc place) ls

abbrev pub slot_events : ℕ → Slot → List Put
slot_events number s = events_among number (location_place s 0) s.world.locations

-- the events of these slots, the first of which has this number
abbrev pub events_from : ℕ → List Slot → List Put
events_from number [] = []
events_from number (s ∷ ss) = slot_events number s ++ events_from (suc number) ss

-- the events of all slots
abbrev pub events_of : Joint → List Put
events_of joint = events_from 1 joint.slots

-- ---- a placement with the events

-- the location has no event
abbrev pub has_no_event : Option Site → Bool
has_no_event None = true
has_no_event (Some site) = not (is_some site.location.event)

-- the location of a put has no event
abbrev pub is_at_no_event : List Slot → Put → Bool
is_at_no_event slots put = has_no_event (site_at slots put.place)

-- the events of all slots, and what a placement puts at locations that have none
abbrev pub with_events : Joint → List Put → List Put
with_events joint puts = events_of joint ++ filter (is_at_no_event joint.slots) puts

-- the location has no event, or it has one
abbrev pub lacks_event : Location → Bool
lacks_event l = not (is_some l.event)

-- for each place of a slot, whether no event stands there
abbrev pub slot_flags : Slot → List Bool
slot_flags s = replicate (length s.world.regions) true ++ map lacks_event s.world.locations

-- for each place of these slots, whether no event stands there
abbrev pub event_free : List Slot → List Bool
event_free slots = flat_map slot_flags slots

-- the put alone, or nothing
abbrev pub put_where : Bool → Put → List Put
put_where free put = if free then put ∷ [] else []
