use Rattle.std.proofs.Common.{◌≡◌, drop}
use Rattle.mw_owed.specs.Concerned.{is_finder}
use Rattle.mw_owed.proofs.concerning.is_finder.Given as goal

abbrev pub invariant-loop-pair : goal.invariant-loop-pair
invariant-loop-pair l = is_finder l.pairs l.slot ≡ is_finder (drop l.pair-index l.pairs) l.slot
