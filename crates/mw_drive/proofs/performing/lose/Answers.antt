use Rattle.std.proofs.Common.{◌≡◌, ◌∷◌, [], ◌∙◌, false, true, refl, sym, ap}
use Rattle.std.specs.Option.{is_some}
use Rattle.mw_keep.specs.Views.{reply_view}
use Rattle.mw_protocol.specs.Lives.{happens}
use Rattle.mw_protocol.specs.Rooms.{lost, session_in}
use Rattle.mw_drive.specs.Calls.{StopsIn}
use Rattle.mw_script.specs.Commands.{loses}
use Rattle.mw_drive.specs.Drive.{gone_line, meet_overrun}
use Rattle.mw_drive.proofs.Commanding.{performed_by, performed_none, stopped_by, one_done, absent_calls, absent_text, present_calls, ended_puts}
use Rattle.mw_drive.proofs.Passing.{passed_exit}
use Rattle.mw_drive.proofs.performing.lose.Goals as goal

pub returns-then-not-is_open-clause-ok : goal.returns-then-not-is_open-clause-ok
returns-then-not-is_open-clause-ok g c digest seed life keeps going =
    let absent : is_some (session_in life.room.sessions c.args.session) ≡ false = sym (c.is_open.ensures digest life keeps) ∙ c.if-not-is_open.true in
    performed_none g.D.Disk.may_leave g.D.Disk.faults digest seed life (loses c.args.session) refl _ c.args.kept.now keeps going (absent_calls life (loses c.args.session) c.args.session refl absent)
    (absent_text life (loses c.args.session) c.args.session _ refl absent (c.in_ok-gone.ensures ∙ ap gone_line c.get.ensures))

pub returns-in_err-act-clause-err : goal.returns-in_err-act-clause-err
returns-in_err-act-clause-err g c =
    passed_exit (λ error. StopsIn g.D.Disk.may_leave g.D.Disk.faults c.args.kept.now (loses c.args.session) error c.act.new.kept) c.from_residual-in_err-act.result c.in_err-act.field-0.0
    (λ digest seed life keeps going.
    let there : is_some (session_in life.room.sessions c.args.session) ≡ true = sym (c.is_open.ensures digest life keeps) ∙ c.if-not-is_open.false in
    stopped_by g.D.Disk.may_leave g.D.Disk.faults digest seed life (loses c.args.session) refl (happens (lost c.args.session) ∷ []) c.args.kept.now c.act.new.kept c.in_err-act.field-0.0
    (present_calls life (loses c.args.session) c.args.session refl there) (c.in_err-act.ensures.err digest seed life keeps going))
    c.from_residual-in_err-act.ensures.1

pub returns-clause-ok : goal.returns-clause-ok
returns-clause-ok g c digest seed life keeps going =
    let there : is_some (session_in life.room.sessions c.args.session) ≡ true = sym (c.is_open.ensures digest life keeps) ∙ c.if-not-is_open.false in
    let call = happens (lost c.args.session) in
    performed_by g.D.Disk.may_leave g.D.Disk.faults digest seed life (loses c.args.session) refl (call ∷ []) (meet_overrun life (call ∷ [])) _ c.act.new.kept
    (present_calls life (loses c.args.session) c.args.session refl there)
    (one_done g.D.Disk.may_leave digest seed life call (reply_view c.in_ok-act.field-0) c.act.new.kept (c.in_ok-act.ensures.ok digest seed life keeps going))
    (c.new.ensures.bytes ∙ sym (ended_puts life c.args.session there going.unstopped))
