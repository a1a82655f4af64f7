use Rattle.std.proofs.Common.{arith}
use Rattle.std.proofs.lemmas.Fmt.{length-decimal-le}
use Rattle.mw_storage.proofs.Printed.{one_digit, next_digit}
use Rattle.mw_storage.proofs.size.digits.Goals as goal

pub loop-left-preserved : goal.loop-left-preserved
loop-left-preserved c = (omega (arith, next_digit c.loop-left.left c.loop-left-test.true (omega arith)), omega arith)

pub returns-clause-value : goal.returns-clause-value
returns-clause-value c = omega (arith, one_digit c.loop-left.left c.loop-left-test.false)

pub returns-clause-few : goal.returns-clause-few
returns-clause-few c = omega (arith, one_digit c.loop-left.left c.loop-left-test.false, length-decimal-le 20 c.args.n (omega arith) (omega arith) (omega arith))
