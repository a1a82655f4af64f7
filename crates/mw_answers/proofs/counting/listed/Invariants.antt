use Rattle.std.proofs.Common.{◌≡◌, map, take}
use Rattle.std.specs.Prelude.{string_bytes}
use Rattle.mw_protocol.specs.Commands.{listed}
use Rattle.mw_answers.proofs.counting.listed.Given as goal

abbrev pub invariant-loop-i : goal.invariant-loop-i
invariant-loop-i l = string_bytes l.text ≡ listed (map (λ n. n.now) (take l.i l.names))
