use Rattle.std.proofs.Common.{arith}
use Rattle.mw_script.proofs.Digits.{read_all}
use Rattle.mw_script.proofs.numbers.number_of.Goals as goal

pub returns : goal.returns
returns c = read_all c.args.digits.now c.loop-byte.value c.loop-byte.byte-index (grind arith) c.loop-byte.invariant.small (omega arith) c.loop-byte.invariant.same
