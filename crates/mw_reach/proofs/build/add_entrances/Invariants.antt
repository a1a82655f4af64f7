use Rattle.std.proofs.Common.{◌≡◌, ◌+◌, ◌++◌, length, map, take}
use Rattle.mw_multi.specs.Steps.{entrance_step}
use Rattle.mw_reach.specs.Building.{AreJointRows}
use Rattle.mw_reach.specs.Rows.{steps_in}
use Rattle.mw_reach.proofs.build.add_entrances.Given as goal

-- the entrances so far
abbrev pub invariant-loop-i : goal.invariant-loop-i
invariant-loop-i g l = record {
  kept : AreJointRows l.joint l.rows;
  steps : steps_in l.joint l.rows ≡ steps_in l.joint l.fn.rows ++ map (entrance_step l.fn.slot) (take l.i l.fn.slot.world.entrances);
  many : length l.rows.rows ≡ length l.fn.rows.rows + l.i;
}
