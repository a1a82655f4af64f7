-- What has to hold: each goal, and that each location of each slot that wants all of its world is
-- reached.
use Rattle.std.specs.Prelude.{ℕ, suc, ◌≡◌, ◌&&◌, List, [], ◌∷◌, Option, Some, None, Bool, true, is_none, if◌then◌else◌}
use Rattle.std.specs.List.{list_all}
use Rattle.mw_rules.specs.Holds.{Bag, Places}
use Rattle.mw_multi.specs.World.{Location}
use Rattle.mw_multi.specs.Joint.{Slot, Joint}
use Rattle.mw_multi.specs.Bags.{start_count}
use Rattle.mw_multi.specs.Steps.{steps_of, location_place}
use Rattle.mw_multi.specs.declared.access.Access.{Access}
use Rattle.mw_multi.specs.declared.access.Access.TheVariants.{Full, Items, Minimal}
use Rattle.mw_reach.specs.Reach.{Placed, bag_with, Closed}
use Rattle.mw_reach.specs.Goals.{goal_holds, unmet_goal}
use Rattle.mw_reach.specs.declared.lack.Lack.{Lack}
use Rattle.mw_reach.specs.declared.lack.Lack.TheVariants.{Goal, Location as Spot}

-- ---- a slot's own world

-- the index of the first of these locations that isn't in the list, the first having this index;
-- none where each is
abbrev pub first_outside : Places → Slot → ℕ → List Location → Option ℕ
first_outside w s index [] = None
first_outside w s index (l ∷ ls) =
    if w (location_place s index) then first_outside w s (suc index) ls else Some index

-- where not all of a world is wanted, none of it is missed
abbrev pub wanted : Access → Option ℕ → Option ℕ
wanted Full outside = outside
wanted Items outside = None
wanted Minimal outside = None

-- the index of the slot's first location that it wants and that isn't in the list
abbrev pub missed_in : Places → Slot → Option ℕ
missed_in w s = wanted s.access (first_outside w s 0 s.world.locations)

-- ---- all slots

-- the slot's goal holds, and where it wants all of its world, each of its locations is in the list
abbrev pub slot_required : Bag → Places → Slot → Bool
slot_required bag w s = goal_holds bag w s && is_none (missed_in w s)

-- Required: so it is for each slot
abbrev pub is_required : Joint → Bag → Places → Bool
is_required joint bag w = list_all (slot_required bag w) joint.slots

abbrev pub Required : Joint → Bag → Places → Type 0
Required joint bag w = is_required joint bag w ≡ true

-- Beatable: Required holds of every list of places that is closed for the starting items and what
-- is placed
abbrev pub IsBeatable : Joint → Placed → Type 0
IsBeatable joint placed =
    (w : Places) → Closed (steps_of joint) (start_count joint.slots) placed w
    → Required joint (bag_with (start_count joint.slots) placed w) w

-- ---- what is lacking

-- a location that the slot of this number misses, or what comes later
abbrev pub or_later : ℕ → Option ℕ → Option Lack → Option Lack
or_later number None later = later
or_later number (Some place) later = Some (Spot number place)

-- the first location that one of these slots misses, the first slot having this number
abbrev pub missed_from : ℕ → List Slot → Places → Option Lack
missed_from number [] w = None
missed_from number (s ∷ ss) w = or_later number (missed_in w s) (missed_from (suc number) ss w)

abbrev pub missed_location : Joint → Places → Option Lack
missed_location joint w = missed_from 1 joint.slots w

-- a goal that doesn't hold, or else a location
abbrev pub or_location : Option ℕ → Option Lack → Option Lack
or_location None missed = missed
or_location (Some slot) missed = Some (Goal slot)

-- the first slot whose goal doesn't hold; where each does, the first location that is missed
abbrev pub first_lack : Joint → Bag → Places → Option Lack
first_lack joint bag w = or_location (unmet_goal joint bag w) (missed_location joint w)
