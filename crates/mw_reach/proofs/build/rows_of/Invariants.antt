use Rattle.std.proofs.Common.{◌≡◌, ◌≤◌, ◌*◌, length, take}
use Rattle.std.specs.Prelude.{flat_map}
use Rattle.mw_multi.specs.Steps.{slot_rules, slot_steps}
use Rattle.mw_reach.specs.Building.{AreJointRows}
use Rattle.mw_reach.specs.Rows.{steps_in}
use Rattle.mw_reach.proofs.build.rows_of.Given as goal

-- the slots so far
abbrev pub invariant-loop-i : goal.invariant-loop-i
invariant-loop-i g l = record {
  kept : AreJointRows l.fn.joint l.rows;
  steps : steps_in l.fn.joint l.rows ≡ flat_map slot_steps (take l.i l.fn.joint.slots);
  rule : l.rule ≡ length (flat_map slot_rules (take l.i l.fn.joint.slots));
  few_rules : l.rule ≤ 20001 * l.i;
  few_rows : length l.rows.rows ≤ 20001 * l.i;
}
