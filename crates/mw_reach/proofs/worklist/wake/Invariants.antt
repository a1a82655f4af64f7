use Rattle.std.proofs.Common.{◌+◌, ◌≤◌, take}
use Rattle.mw_reach.specs.Reached.{IsFrontierFor}
use Rattle.mw_reach.specs.Worklist.{steps_at}
use Rattle.mw_reach.specs.Walking.{HasWoken, steps_on}
use Rattle.mw_reach.proofs.worklist.wake.Given as goal

-- the numbers so far
abbrev pub invariant-loop-number : goal.invariant-loop-number
invariant-loop-number g l = record {
  frontier : IsFrontierFor l.terrain.joint.now l.frontier;
  steps : l.steps ≤ l.initial.steps + l.number-index;
  woken : HasWoken (steps_at (steps_on l.terrain) (take l.number-index l.numbers)) l.tally l.initial.frontier l.frontier;
}
