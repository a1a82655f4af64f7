use Rattle.std.proofs.Common.{◌≡◌, ◌≤◌, ◌+◌, drop, map, length}
use Rattle.mw_protocol.specs.Checks.{found_item}
use Rattle.mw_checks.specs.Rows.{standing}
use Rattle.mw_checks.specs.Views.{asked_of}
use Rattle.mw_checks.proofs.lengths.count_each.Given as goal

abbrev pub invariant-loop-number : goal.invariant-loop-number
invariant-loop-number l =
    (l.count + length (asked_of l.handling (map found_item (standing l.places.locations (drop l.number-index l.numbers))))
    ≡ length (asked_of l.handling (map found_item (standing l.places.locations l.numbers)))) × (l.count ≤ l.number-index)
