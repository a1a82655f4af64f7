use Rattle.std.proofs.Common.{◌≡◌, ◌++◌, drop}
use Rattle.mw_owed.specs.Receivers.{receivers_in}
use Rattle.mw_owed.proofs.receivers.receivers_of.Given as goal

abbrev pub invariant-loop-pair : goal.invariant-loop-pair
invariant-loop-pair l = l.receivers.items ++ receivers_in l.log.seed (drop l.pair-index l.pairs) ≡ receivers_in l.log.seed l.pairs
