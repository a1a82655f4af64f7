use Rattle.std.proofs.Common.{◌+◌}
use Rattle.mw_edges.proofs.Told.{Appends-more, PutsFront-take, PutsFront-kept, within-rest}
use Rattle.mw_edges.proofs.writer.write_whole.Goals as goal

pub returns-in_default-clause-err : goal.returns-in_default-clause-err
returns-in_default-clause-err g c =
    let k = g.W.Write.contents in
    PutsFront-kept (k c.args.writer.now) (k c.loop.writer) (k c.write_some.new.writer) c.loop.at c.args.bytes.now
    c.loop.invariant.put c.in_default.ensures.bytes

pub returns-then-count-eq0-clause-err : goal.returns-then-count-eq0-clause-err
returns-then-count-eq0-clause-err g c =
    let k = g.W.Write.contents in
    PutsFront-take (k c.args.writer.now) (k c.write_some.new.writer) (c.loop.at + c.in-Ok.count) c.args.bytes.now
    (Appends-more (k c.args.writer.now) (k c.loop.writer) (k c.write_some.new.writer) c.loop.at c.in-Ok.count
    c.args.bytes.now c.loop.invariant.put c.in-Ok.ensures.bytes)

pub loop-preserved : goal.loop-preserved
loop-preserved g c =
    let k = g.W.Write.contents in
    record {
      within = within-rest c.loop.at c.in-Ok.count c.args.bytes.now c.loop.invariant.within c.in-Ok.ensures.bound;
      put = Appends-more (k c.args.writer.now) (k c.loop.writer) (k c.write_some.new.writer) c.loop.at c.in-Ok.count
          c.args.bytes.now c.loop.invariant.put c.in-Ok.ensures.bytes;
    }

pub returns-clause-err : goal.returns-clause-err
returns-clause-err g c =
    let k = g.W.Write.contents in
    PutsFront-take (k c.args.writer.now) (k c.loop.writer) c.loop.at c.args.bytes.now c.loop.invariant.put
