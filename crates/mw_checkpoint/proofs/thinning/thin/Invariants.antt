use Rattle.std.proofs.Common.{◌≡◌, ◌≤◌, drop, length, map, reverse}
use Rattle.mw_records.specs.Records.{record_view}
use Rattle.mw_thinning.specs.Thinning.{thinned}
use Rattle.mw_checkpoint.specs.Keys.{AreKeysOf}
use Rattle.mw_checkpoint.proofs.thinning.thin.Given as goal

-- what counts of the records from a place on is kept, the last one first, and their keys are met
abbrev pub invariant-loop-left : goal.invariant-loop-left
invariant-loop-left l =
    (l.left ≤ length l.records)
    × (map record_view l.kept.items ≡ reverse (thinned (map record_view (drop l.left l.records))))
    × AreKeysOf l.met (map record_view (drop l.left l.records))

abbrev pub decreases-loop-left : goal.decreases-loop-left
decreases-loop-left l = l.left
