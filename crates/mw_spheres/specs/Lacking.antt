-- The first thing that a placement leaves lacking.
use Rattle.std.specs.Prelude.{◌≡◌, Option}
use Rattle.mw_rules.specs.Holds.{Places}
use Rattle.mw_multi.specs.Joint.{Joint}
use Rattle.mw_multi.specs.Bags.{start_count}
use Rattle.mw_multi.specs.Steps.{steps_of}
use Rattle.mw_reach.specs.Reach.{Placed, bag_with, IsLeast}
use Rattle.mw_reach.specs.Required.{first_lack}
use Rattle.mw_reach.specs.declared.lack.Lack.{Lack}

-- the first slot whose goal doesn't hold in the least list for the starting items and the
-- placement, or else the first location that isn't in it of a slot that wants all of its world;
-- none where nothing is lacking
pub record IsFirstLack (joint : Joint) (table : Placed) (lack : Option Lack) : Type 0 where
  pub reached : Places
  pub least : IsLeast (steps_of joint) (start_count joint.slots) table reached
  pub is : lack ≡ first_lack joint (bag_with (start_count joint.slots) table reached) reached
