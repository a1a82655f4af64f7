use Rattle.std.proofs.Common.{◌≡◌, ◌++◌, drop}
use Rattle.mw_checks.specs.Fresh.{new_checks}
use Rattle.mw_checks.specs.Log.{checks_of}
use Rattle.mw_checks.proofs.fresh.fresh_pairs.Given as goal

-- what is found, and what is new after it among the pairs that are left
abbrev pub invariant-loop-pair : goal.invariant-loop-pair
invariant-loop-pair l =
    checks_of l.team l.found.keys ++ new_checks l.log.seed (l.log.checked ++ checks_of l.team l.found.keys) (checks_of l.team (drop l.pair-index l.pairs))
    ≡ new_checks l.log.seed l.log.checked (checks_of l.team l.pairs)
