use Rattle.std.proofs.Common.{◌≡◌, ◌++◌, List, drop}
use Rattle.mw_protocol.specs.Checks.{Check}
use Rattle.mw_checks.specs.Fresh.{looked}
use Rattle.mw_checks.specs.Log.{checks_of}
use Rattle.mw_checks.proofs.asking.note_pairs.Given as goal

-- what is found, with what is new of those that are left, is what is new of all
abbrev pub invariant-loop-pair : goal.invariant-loop-pair
invariant-loop-pair l = (others : List Check)
    → looked l.log.seed l.log.checked l.team l.found.keys (checks_of l.team (drop l.pair-index l.pairs) ++ others)
    ≡ looked l.log.seed l.log.checked l.team l.initial.found.keys (checks_of l.team l.pairs ++ others)
