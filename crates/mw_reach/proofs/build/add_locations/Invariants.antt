use Rattle.std.proofs.Common.{◌≡◌, ◌+◌, ◌++◌, length, take}
use Rattle.mw_multi.specs.Steps.{location_steps}
use Rattle.mw_reach.specs.Building.{AreJointRows}
use Rattle.mw_reach.specs.Rows.{steps_in}
use Rattle.mw_reach.proofs.build.add_locations.Given as goal

-- the locations so far
abbrev pub invariant-loop-i : goal.invariant-loop-i
invariant-loop-i g l = record {
  kept : AreJointRows l.joint l.rows;
  steps : steps_in l.joint l.rows ≡ steps_in l.joint l.fn.rows ++ location_steps l.fn.slot 0 (take l.i l.fn.slot.world.locations);
  many : length l.rows.rows ≡ length l.fn.rows.rows + l.i;
}
