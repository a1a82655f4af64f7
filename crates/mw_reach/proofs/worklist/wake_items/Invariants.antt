use Rattle.std.proofs.Common.{◌+◌, ◌≤◌, length, take}
use Rattle.mw_reach.specs.Reached.{IsFrontierFor}
use Rattle.mw_reach.specs.Worklist.{steps_at, numbers_of}
use Rattle.mw_reach.specs.Walking.{HasWoken, steps_on}
use Rattle.mw_reach.proofs.worklist.wake_items.Given as goal

-- the items so far
abbrev pub invariant-loop-item : goal.invariant-loop-item
invariant-loop-item g l = record {
  frontier : IsFrontierFor l.terrain.joint.now l.frontier;
  steps : l.steps ≤ l.initial.steps + length (numbers_of l.terrain.rows.now.by_item (take l.item-index l.items));
  woken : HasWoken (steps_at (steps_on l.terrain) (numbers_of l.terrain.rows.now.by_item (take l.item-index l.items))) l.tally l.initial.frontier l.frontier;
}
