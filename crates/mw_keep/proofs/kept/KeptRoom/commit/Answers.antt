use Rattle.std.proofs.Common.{refl}
use Rattle.mw_protocol.specs.Lives.{commits, committed_of, pending_of}
use Rattle.mw_keep.specs.Views.{reply_view}
use Rattle.mw_keep.proofs.Acting.{commit_done, commit_stopped, holds_pending}
use Rattle.mw_keep.proofs.kept.KeptRoom.commit.Goals as goal

pub returns-in-Ok-clause-goes : goal.returns-in-Ok-clause-goes
returns-in-Ok-clause-goes g c digest life keeps running =
    let holds = holds_pending g.D.Disk.may_leave g.D.Disk.moment g.D.Disk.left_since g.D.Disk.faults g.met.D.Disk.only_now g.met.D.Disk.counts_now digest life c.args.self.now keeps running in
    commit_done g.D.Disk.may_leave g.D.Disk.moment g.D.Disk.left_since g.D.Disk.faults g.met.D.Disk.only_now g.met.D.Disk.counts_now digest life c.args.self.now keeps running c.append.new.journal _
    (c.in-Ok.ensures.appends digest (committed_of life) (pending_of life) life.place keeps.pending holds) c.in-Ok.ensures.quiet
    refl refl c.new.ensures (c.length-self.ensures life.room keeps.room) refl refl

pub returns-in-Err-clause-goes : goal.returns-in-Err-clause-goes
returns-in-Err-clause-goes g c digest life keeps running =
    let holds = holds_pending g.D.Disk.may_leave g.D.Disk.moment g.D.Disk.left_since g.D.Disk.faults g.met.D.Disk.only_now g.met.D.Disk.counts_now digest life c.args.self.now keeps running in
    let same = c.stop.ensures.same in
    commit_stopped g.D.Disk.may_leave g.D.Disk.moment g.D.Disk.left_since g.D.Disk.faults g.met.D.Disk.only_now g.met.D.Disk.counts_now digest life c.args.self.now keeps running
    c.in-Err.error c.append.new.journal (reply_view c.stop.result) c.stop.new.self
    (c.in-Err.ensures.appends digest (committed_of life) (pending_of life) life.place keeps.pending holds) c.in-Err.ensures.quiet
    (c.stop.ensures.replies life.room commits) same.room same.journal same.pending same.committed same.calls c.stop.ensures.stopped
