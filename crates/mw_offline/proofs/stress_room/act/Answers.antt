use Rattle.mw_keep.specs.Views.{call_view, reply_view}
use Rattle.mw_drive.specs.Calls.{StopsAmong}
use Rattle.std.proofs.Common.{◌≡◌, ◌∷◌, [], Some}
use Rattle.mw_drive.proofs.Lucky.{call_done, call_stopped}
use Rattle.mw_drive.proofs.Passing.{if_err}
use Rattle.mw_drive.specs.Calls.{failure}
use Rattle.mw_offline.proofs.Sessions.{if_ok_both}
use Rattle.mw_offline.proofs.stress_room.act.Goals as goal

pub returns-clause-ok : goal.returns-clause-ok
returns-clause-ok g c =
    let D = g.D.Disk in
    let reply = reply_view c.act-reply.result in
    if_ok_both c.answered.result c.answered.ensures.ok c.answered.ensures.goes
    (λ texts is goes. (
      reply,
      is,
      λ digest seed life keeps going.
          call_done D.may_leave D.moment D.left_since D.faults digest seed life (call_view c.args.call) c.args.kept.now reply c.act-reply.new.self (c.act-reply.ensures.acts digest life keeps) going goes,
    ))

pub returns-clause-err : goal.returns-clause-err
returns-clause-err g c =
    let D = g.D.Disk in
    let reply = reply_view c.act-reply.result in
    if_err (λ error. failure reply ≡ Some error) (λ error. StopsAmong D.may_leave D.faults c.args.kept.now (call_view c.args.call ∷ []) error c.act-reply.new.self) c.answered.result c.answered.ensures.err
    (λ error is digest seed life keeps going.
    call_stopped D.may_leave D.moment D.left_since D.faults digest seed life (call_view c.args.call) c.args.kept.now reply c.act-reply.new.self (c.act-reply.ensures.acts digest life keeps) going error is)
