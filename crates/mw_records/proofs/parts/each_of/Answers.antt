use Rattle.std.proofs.Common.{arith}
use Rattle.std.proofs.lemmas.Grind.{common_steps}
use Rattle.std.proofs.lemmas.Result.{err_from_is_err_and}
use Rattle.mw_records.specs.Reading.{each_location}
use Rattle.mw_records.proofs.Loop.{goes_on, ends, is_done}
use Rattle.mw_records.proofs.parts.each_of.Goals as goal

pub returns-in_err-location_of-clause-value : goal.returns-in_err-location_of-clause-value
returns-in_err-location_of-clause-value c =
    let p = err_from_is_err_and c.from_residual.result c.from_residual.ensures.1 in
    rw (p.1, p.2) (ends c.in_err-location_of.field-0.0 c.loop.locations c.args.count c.loop.counter c.loop.bytes.now (each_location c.args.count c.args.bytes.now.now) c.loop-test.true c.in_err-location_of.ensures c.loop.invariant.so_far)

pub loop-preserved : goal.loop-preserved
loop-preserved c = record {
  so_far = rw c.in_ok-push.ensures.ok (goes_on c.loop.locations c.args.count c.loop.counter c.loop.bytes.now c.in_ok-location_of.field-0 c.location_of.new.bytes.now (each_location c.args.count c.args.bytes.now.now) c.loop-test.true c.in_ok-location_of.ensures c.loop.invariant.so_far);
  number = rw c.in_ok-push.ensures.ok (grind (arith, common_steps, c.loop.invariant.number));
}

pub returns-clause-value : goal.returns-clause-value
returns-clause-value c = is_done c.loop.locations c.args.count c.loop.counter c.loop.bytes.now (each_location c.args.count c.args.bytes.now.now) c.loop-test.false c.loop.invariant.so_far
