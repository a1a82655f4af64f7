use Rattle.std.proofs.Common.{sym}
use Rattle.mw_keep.specs.Views.{call_view, reply_view}
use Rattle.mw_keep.proofs.Acting.{acts_refused, acts_gone}
use Rattle.mw_keep.proofs.kept.KeptRoom.act.Goals as goal

pub returns-in-Some-clause-acts : goal.returns-in-Some-clause-acts
returns-in-Some-clause-acts g c digest life keeps =
    acts_refused g.D.Disk.may_leave g.D.Disk.moment g.D.Disk.left_since g.D.Disk.faults g.met.D.Disk.only_now g.met.D.Disk.counts_now
    digest life (call_view c.args.call) (reply_view c.in-Some.reply) c.args.self.now c.count.new.self
    (c.in-Some.ensures digest life keeps) keeps (c.count.ensures.kept digest life keeps) c.count.ensures.journal

pub returns-in-None-clause-acts : goal.returns-in-None-clause-acts
returns-in-None-clause-acts g c digest life keeps =
    let accepted = c.in-None.ensures digest life keeps in
    acts_gone g.D.Disk.may_leave g.D.Disk.moment g.D.Disk.left_since g.D.Disk.faults g.met.D.Disk.only_now g.met.D.Disk.counts_now
    digest life (call_view c.args.call) (reply_view c.go.result) c.args.self.now c.count.new.self c.go.new.self
    accepted c.count.ensures.journal
    (c.go.ensures.goes digest life (c.count.ensures.kept digest life keeps) (sym accepted))
