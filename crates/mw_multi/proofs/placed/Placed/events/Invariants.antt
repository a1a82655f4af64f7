use Rattle.std.proofs.Common.{◌≤◌, ◌*◌, length, take}
use Rattle.std.specs.Prelude.{sum_by}
use Rattle.mw_multi.specs.Placement.{IsPlaced}
use Rattle.mw_multi.specs.Events.{events_from}
use Rattle.mw_multi.proofs.placed.Placed.events.Given as goal

abbrev pub invariant-loop-before : goal.invariant-loop-before
invariant-loop-before l = record {
  placed : IsPlaced l.joint (events_from 1 (take l.before l.joint.slots)) l.placed;
  total : sum_by length l.placed ≤ 10000 * l.before;
}
