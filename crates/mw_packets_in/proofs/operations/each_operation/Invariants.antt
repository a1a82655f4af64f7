use Rattle.std.proofs.Common.{◌≡◌, drop}
use Rattle.mw_json.specs.View.{items_view}
use Rattle.mw_json.specs.Readers.{each_from}
use Rattle.mw_json.proofs.Fronts.{with_front}
use Rattle.mw_packets_in.specs.Rows.{operation_at}
use Rattle.mw_packets_in.proofs.operations.each_operation.Given as goal

abbrev pub invariant-loop-i : goal.invariant-loop-i
invariant-loop-i l = with_front l.found (each_from operation_at l.i (items_view (drop l.i l.items))) ≡ each_from operation_at 0 (items_view l.items)
