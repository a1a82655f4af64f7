-- The first goal that a placement leaves unmet.
use Rattle.std.specs.Prelude.{◌≡◌, ℕ, Option}
use Rattle.mw_rules.specs.Holds.{Places}
use Rattle.mw_multi.specs.Joint.{Joint}
use Rattle.mw_multi.specs.Bags.{start_count}
use Rattle.mw_multi.specs.Steps.{steps_of}
use Rattle.mw_reach.specs.Reach.{Placed, bag_with, IsLeast}
use Rattle.mw_reach.specs.Goals.{unmet_goal}

-- the number of the first slot whose goal doesn't hold in the least list for the starting items and the placement; none
-- where each goal holds
pub record IsFirstUnmet (joint : Joint) (table : Placed) (slot : Option ℕ) : Type 0 where
  pub reached : Places
  pub least : IsLeast (steps_of joint) (start_count joint.slots) table reached
  pub unmet : slot ≡ unmet_goal joint (bag_with (start_count joint.slots) table reached) reached
