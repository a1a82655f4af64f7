use Rattle.std.proofs.Common.{◌≡◌, ◌++◌, drop}
use Rattle.mw_checks.proofs.fresh.listed.Given as goal

abbrev pub invariant-loop-pair : goal.invariant-loop-pair
invariant-loop-pair l = l.list ++ drop l.pair-index l.pair-items ≡ drop l.from l.pairs.keys
