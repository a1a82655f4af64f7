use Rattle.std.proofs.Common.{◌≡◌, ◌+◌, ◌≤◌, length, decimal}
use Rattle.mw_storage.proofs.size.digits.Given as goal

-- the digits that were taken and those that are left, one of them counted already
abbrev pub invariant-loop-left : goal.invariant-loop-left
invariant-loop-left l = (l.count + length (decimal l.left) ≡ length (decimal l.n) + 1) × (l.count + l.left ≤ l.n + 1)

abbrev pub decreases-loop-left : goal.decreases-loop-left
decreases-loop-left l = l.left
