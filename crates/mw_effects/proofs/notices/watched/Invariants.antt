use Rattle.std.proofs.Common.{◌≡◌, drop}
use Rattle.mw_protocol.specs.Storing.{watched}
use Rattle.mw_effects.proofs.notices.watched.Given as goal

abbrev pub invariant-loop-key : goal.invariant-loop-key
invariant-loop-key l = watched l.keys (drop l.key-index l.more) ≡ watched l.before l.more
