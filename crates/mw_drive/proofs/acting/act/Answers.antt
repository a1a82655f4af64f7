use Rattle.std.proofs.Common.{sym}
use Rattle.mw_keep.specs.Views.{call_view, reply_view}
use Rattle.mw_drive.proofs.Lucky.{call_done, call_stopped}
use Rattle.mw_drive.proofs.acting.act.Goals as goal

pub returns-in-Some-clause-err : goal.returns-in-Some-clause-err
returns-in-Some-clause-err g c digest seed life keeps going =
    call_stopped g.D.Disk.may_leave g.D.Disk.moment g.D.Disk.left_since g.D.Disk.faults digest seed life (call_view c.args.call) c.args.kept.now (reply_view c.act-reply.result) c.act-reply.new.self
    (c.act-reply.ensures.acts digest life keeps) going c.in-Some.error (sym c.in-Some.ensures.is)

pub returns-in-None-clause-ok : goal.returns-in-None-clause-ok
returns-in-None-clause-ok g c digest seed life keeps going =
    call_done g.D.Disk.may_leave g.D.Disk.moment g.D.Disk.left_since g.D.Disk.faults digest seed life (call_view c.args.call) c.args.kept.now (reply_view c.act-reply.result) c.act-reply.new.self
    (c.act-reply.ensures.acts digest life keeps) going (sym c.in-None.ensures.is)
