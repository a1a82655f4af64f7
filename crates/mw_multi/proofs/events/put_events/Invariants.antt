use Rattle.std.proofs.Common.{◌≤◌, ◌+◌, List, ◌++◌, length, take}
use Rattle.std.specs.Prelude.{sum_by}
use Rattle.mw_multi.specs.Placement.{Put as PlainPut}
use Rattle.mw_multi.specs.Placement.{IsPlaced}
use Rattle.mw_multi.specs.Events.{events_among}
use Rattle.mw_multi.proofs.events.put_events.Given as goal

abbrev pub invariant-loop-index : goal.invariant-loop-index
invariant-loop-index l = record {
  put : (puts : List PlainPut) → IsPlaced l.joint puts l.initial.placed
      → IsPlaced l.joint (puts ++ events_among l.number l.first (take l.index l.location-items)) l.placed;
  total : sum_by length l.placed ≤ sum_by length l.initial.placed + l.index;
}
