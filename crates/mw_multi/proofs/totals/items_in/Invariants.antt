use Rattle.std.proofs.Common.{◌≡◌, ◌≤◌, ◌*◌, take}
use Rattle.mw_multi.specs.Joint.{item_total}
use Rattle.mw_multi.proofs.totals.items_in.Given as goal

abbrev pub invariant-loop-slot : goal.invariant-loop-slot
invariant-loop-slot l = record {
  value : l.total ≡ item_total (take l.slot-index l.slots);
  bound : l.total ≤ 10000 * l.slot-index;
}
