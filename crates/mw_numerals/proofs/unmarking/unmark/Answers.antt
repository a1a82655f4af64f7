use Rattle.std.proofs.Common.{arith}
use Rattle.mw_numerals.specs.Marks.{unmarked}
use Rattle.mw_numerals.specs.View.{view}
use Rattle.mw_numerals.proofs.Pieces.{goes_on, is_out}
use Rattle.mw_numerals.proofs.unmarking.unmark.Goals as goal

pub loop-rest-preserved : goal.loop-rest-preserved
loop-rest-preserved c =
    let first = c.first_piece in
    goes_on unmarked c.args.bytes.now (view first.result.0) c.loop-rest.rest.now first.result.1.now c.loop-rest.out.items c.put_unmarked.new.out.items c.loop-rest.invariant first.ensures.whole
    first.ensures.piece first.ensures.ends c.in_ok-put_unmarked.ensures

pub returns : goal.returns
returns c = is_out unmarked c.args.bytes.now c.loop-rest.rest.now c.loop-rest.out.items c.loop-rest.invariant (grind arith)
