-- Which goals hold.
use Rattle.std.specs.Prelude.{ℕ, suc, ◌≡◌, ◌+◌, List, [], ◌∷◌, Option, Some, None, Bool, true, All, if◌then◌else◌}
use Rattle.mw_rules.specs.Holds.{Bag, Places, holds}
use Rattle.mw_multi.specs.Joint.{Slot, Joint}
use Rattle.mw_multi.specs.Steps.{steps_of}
use Rattle.mw_multi.specs.Bags.{start_count}
use Rattle.mw_reach.specs.Reach.{Placed, bag_with, Closed}

-- the slot's goal holds for these items and this list of places
abbrev pub goal_holds : Bag → Places → Slot → Bool
goal_holds bag w s = holds s.world.goal (λ i. bag (s.first_item + i)) (λ p. w (s.first_place + p))

-- each slot's goal holds
abbrev pub GoalsHold : Joint → Bag → Places → Type 0
GoalsHold joint bag w = All (λ s. goal_holds bag w s ≡ true) joint.slots

-- the number of the first of these slots whose goal doesn't hold, the first slot having this number; none where each does
abbrev pub unmet_from : ℕ → List Slot → Bag → Places → Option ℕ
unmet_from number [] bag w = None
unmet_from number (s ∷ ss) bag w =
    if goal_holds bag w s then unmet_from (suc number) ss bag w else Some number

-- the number of the first slot whose goal doesn't hold
abbrev pub unmet_goal : Joint → Bag → Places → Option ℕ
unmet_goal joint bag w = unmet_from 1 joint.slots bag w

-- each goal holds in every list of places that is closed for the starting items and what is placed
abbrev pub MeetsGoals : Joint → Placed → Type 0
MeetsGoals joint placed =
    (w : Places) → Closed (steps_of joint) (start_count joint.slots) placed w
    → GoalsHold joint (bag_with (start_count joint.slots) placed w) w
