use Rattle.std.proofs.Common.{length-take, arith, ◌∙◌}
use Rattle.mw_journal.proofs.Lifts.{body_more}
use Rattle.mw_journal.proofs.Reading.{both}
use Rattle.mw_journal.proofs.scan.read_body.Goals as goal

pub loop-done-preserved : goal.loop-done-preserved
loop-done-preserved g c = record {
  within = omega (arith, c.loop-done-test.true, c.min-count.ensures);
  reads = both g.D.Disk.told g.D.Disk.may_leave g.D.Disk.moment g.D.Disk.left_since g.D.Disk.faults
      c.args.disk.now c.loop-done.disk c.read_more.new.disk c.loop-done.invariant.reads c.read_more.ensures.reads;
  bytes = λ f told.
      let so_far = c.loop-done.invariant.bytes f told in
      let read = c.in_ok-read.ensures.bytes f (c.loop-done.invariant.reads.same ∙ told) in
      body_more f c.args.text.now.items c.loop-done.text.items c.read_more.new.text.items c.args.at c.loop-done.done c.min-count.result c.in_ok-read.read
      _ so_far.0 so_far.1 read.0
      (omega (arith, length-take c.min-count.result c.loop-done.chunk, c.loop-done.auto.chunk, c.requires.chunk, c.min-count.ensures)) c.if-read-count.false read.1;
}
