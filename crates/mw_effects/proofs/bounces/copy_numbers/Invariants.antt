use Rattle.std.proofs.Common.{◌≡◌, ◌++◌, drop}
use Rattle.mw_effects.proofs.bounces.copy_numbers.Given as goal

abbrev pub invariant-loop-number : goal.invariant-loop-number
invariant-loop-number l = l.copies ++ drop l.number-index l.numbers ≡ l.numbers
