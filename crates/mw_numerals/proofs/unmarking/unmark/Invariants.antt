use Rattle.std.proofs.Common.{ℕ, List, length, ◌++◌}
use Rattle.mw_numerals.specs.Marks.{IsUnmarked}
use Rattle.mw_numerals.proofs.unmarking.unmark.Given as goal

-- what is out already, and whatever the rest is without its marks
abbrev pub invariant-loop-rest : goal.invariant-loop-rest
invariant-loop-rest l = (after : List ℕ) → IsUnmarked l.rest after → IsUnmarked l.fn.bytes (l.out.items ++ after)

abbrev pub decreases-loop-rest : goal.decreases-loop-rest
decreases-loop-rest l = length l.rest
