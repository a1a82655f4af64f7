use Rattle.std.proofs.Common.{◌≡◌, ◌≤◌, ◌+◌, drop, map, length}
use Rattle.mw_protocol.specs.Checks.{start_item}
use Rattle.mw_checks.specs.Views.{asked_of}
use Rattle.mw_checks.proofs.lengths.count_starts.Given as goal

abbrev pub invariant-loop-start : goal.invariant-loop-start
invariant-loop-start l =
    (l.count + length (asked_of l.handling (map start_item (drop l.start-index l.starts))) ≡ length (asked_of l.handling (map start_item l.starts))) × (l.count ≤ l.start-index)
