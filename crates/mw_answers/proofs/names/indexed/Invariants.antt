use Rattle.std.proofs.Common.{◌≤◌, drop, length}
use Rattle.mw_answers.specs.Index.{IsIndex}
use Rattle.mw_answers.proofs.names.indexed.Given as goal

-- the names from here on are in the index
abbrev pub invariant-loop-at : goal.invariant-loop-at
invariant-loop-at l = (l.at ≤ length l.names) × IsIndex (λ s. s.now) (drop l.at l.names) l.by_id

abbrev pub decreases-loop-at : goal.decreases-loop-at
decreases-loop-at l = l.at
