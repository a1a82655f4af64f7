use Rattle.std.proofs.Common.{◌≡◌, ◌++◌, drop}
use Rattle.mw_owed.proofs.telling.tellings_of.Given as goal

abbrev pub invariant-loop-one : goal.invariant-loop-one
invariant-loop-one l = l.tellings.items ++ drop l.one-index l.announced ≡ l.announced
