use Rattle.std.proofs.Common.{◌≡◌, ◌≤◌, ◌*◌, take}
use Rattle.mw_multi.specs.Joint.{place_total}
use Rattle.mw_multi.proofs.totals.places_in.Given as goal

abbrev pub invariant-loop-slot : goal.invariant-loop-slot
invariant-loop-slot l = record {
  value : l.total ≡ place_total (take l.slot-index l.slots);
  bound : l.total ≤ 15000 * l.slot-index;
}
