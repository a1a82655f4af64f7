use Rattle.std.proofs.Common.{ℕ, List, length, ◌++◌}
use Rattle.mw_numerals.specs.Marks.{IsMarked}
use Rattle.mw_numerals.proofs.marking.mark.Given as goal

-- what is out already, and whatever the rest is marked as
abbrev pub invariant-loop-rest : goal.invariant-loop-rest
invariant-loop-rest l = (after : List ℕ) → IsMarked l.rest after → IsMarked l.fn.bytes (l.out.items ++ after)

abbrev pub decreases-loop-rest : goal.decreases-loop-rest
decreases-loop-rest l = length l.rest
