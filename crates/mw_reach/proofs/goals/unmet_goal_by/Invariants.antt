use Rattle.std.proofs.Common.{◌≡◌, ◌≤◌, ◌+◌, ◌*◌, suc, length, take, drop}
use Rattle.std.specs.Prelude.{flat_map}
use Rattle.mw_rules.specs.Holds.{bag_of}
use Rattle.mw_multi.specs.Steps.{slot_rules}
use Rattle.mw_reach.specs.Goals.{unmet_from, unmet_goal}
use Rattle.mw_reach.specs.Reached.{counts_in, places_in}
use Rattle.mw_reach.proofs.goals.unmet_goal_by.Given as goal

-- the goals of the slots so far hold
abbrev pub invariant-loop-index : goal.invariant-loop-index
invariant-loop-index g l = record {
  rule : l.first_rule ≡ length (flat_map slot_rules (take l.index l.joint.slots));
  few_rules : l.first_rule ≤ 20001 * l.index;
  unmet : unmet_from (suc l.index) (drop l.index l.joint.slots) (bag_of (counts_in l.reached)) (places_in l.reached) ≡ unmet_goal l.joint (bag_of (counts_in l.reached)) (places_in l.reached);
  steps : l.steps ≤ l.fn.steps + l.index;
}
