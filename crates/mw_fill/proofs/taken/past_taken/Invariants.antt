use Rattle.std.proofs.Common.{◌≤◌, ◌-◌, length}
use Rattle.mw_fill.specs.Kept.{AreTaken}
use Rattle.mw_fill.proofs.taken.past_taken.Given as goal

abbrev pub invariant-loop-from : goal.invariant-loop-from
invariant-loop-from l = record {
  within : l.from ≤ length l.openings;
  taken : AreTaken l.held l.openings l.from;
}

abbrev pub decreases-loop-from : goal.decreases-loop-from
decreases-loop-from l = length l.openings - l.from
