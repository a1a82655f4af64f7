use Rattle.std.proofs.Common.{◌+◌, ◌-◌, ◌≤◌, length}
use Rattle.mw_rules.specs.Holds.{Bag}
use Rattle.mw_reach.specs.Reached.{IsTallyFor, IsFrontierFor}
use Rattle.mw_reach.specs.Walking.{CanGoOn, IsWalking, paid_on}
use Rattle.mw_reach.proofs.walk.visit_all.Given as goal

abbrev pub invariant-loop-head : goal.invariant-loop-head
invariant-loop-head g l = record {
  tally : IsTallyFor l.terrain.joint.now l.tally;
  frontier : IsFrontierFor l.terrain.joint.now l.frontier;
  going : CanGoOn l.terrain.placed.now l.tally l.frontier;
  walking : (base : Bag) → IsWalking l.terrain base l.fn.tally l.fn.frontier 0 → IsWalking l.terrain base l.tally l.frontier l.head;
  steps : l.steps + paid_on l.terrain l.fn.tally ≤ l.fn.steps + paid_on l.terrain l.tally;
}

abbrev pub decreases-loop-head : goal.decreases-loop-head
decreases-loop-head g l = length l.frontier.queue.items - l.head
