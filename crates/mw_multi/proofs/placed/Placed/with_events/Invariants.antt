use Rattle.std.proofs.Common.{◌≤◌, ◌+◌, ◌*◌, ◌++◌, length, take}
use Rattle.std.specs.Prelude.{filter, sum_by}
use Rattle.mw_multi.specs.Placement.{IsPlaced}
use Rattle.mw_multi.specs.Events.{events_of, is_at_no_event}
use Rattle.mw_multi.proofs.placed.Placed.with_events.Given as goal

abbrev pub invariant-loop-put : goal.invariant-loop-put
invariant-loop-put l = record {
  placed : IsPlaced l.joint (events_of l.joint ++ filter (is_at_no_event l.joint.slots) (take l.put-index l.placement)) l.placed;
  total : sum_by length l.placed ≤ 10240000 + 1024 * l.put-index;
}
