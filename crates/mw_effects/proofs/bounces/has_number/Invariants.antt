use Rattle.std.proofs.Common.{◌≡◌, drop}
use Rattle.mw_protocol.specs.Heard.{has_number}
use Rattle.mw_effects.proofs.bounces.has_number.Given as goal

abbrev pub invariant-loop-first : goal.invariant-loop-first
invariant-loop-first l = has_number l.numbers l.number ≡ has_number (drop l.first-index l.numbers) l.number
