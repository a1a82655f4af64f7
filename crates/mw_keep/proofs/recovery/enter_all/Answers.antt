use Rattle.mw_protocol.specs.Rooms.{replayed}
use Rattle.mw_keep.proofs.Entering.{bad_here, one_more}
use Rattle.mw_keep.proofs.recovery.enter_all.Goals as goal

pub returns-in-Err-clause-refused : goal.returns-in-Err-clause-refused
returns-in-Err-clause-refused c seed stands =
    let h = c.loop-at.invariant seed stands in
    bad_here seed c.args.text.now c.loop-at.at c.loop-at.room c.in-Err.error h c.loop-at-test.true
    (c.in-Err.ensures.refused (replayed seed h.journal) h.stands)

pub loop-at-preserved : goal.loop-at-preserved
loop-at-preserved c seed stands =
    let h = c.loop-at.invariant seed stands in
    one_more seed c.args.text.now c.loop-at.at c.in-Ok.next c.loop-at.room c.enter_one.new.room h
    (c.in-Ok.ensures.entered (replayed seed h.journal) h.stands)
