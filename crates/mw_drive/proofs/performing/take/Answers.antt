use Rattle.std.proofs.Common.{◌≡◌, ◌∷◌, [], ◌∙◌, false, true, refl, sym, ap}
use Rattle.std.specs.Option.{is_some}
use Rattle.mw_keep.specs.Views.{reply_view}
use Rattle.mw_protocol.specs.Lives.{takes as take_call, life_after, fine}
use Rattle.mw_protocol.specs.Rooms.{session_in}
use Rattle.mw_drive.specs.Calls.{StopsIn}
use Rattle.mw_script.specs.Commands.{takes}
use Rattle.mw_drive.specs.Drive.{gone_line, overrun_line, message_lines, meet_overrun}
use Rattle.mw_drive.specs.declared.error.DriveError.TheVariants.{Memory}
use Rattle.mw_drive.proofs.Commanding.{performed_by, performed_none, stopped_by, lacks_memory, one_done, absent_calls, absent_text, present_calls, taken_texts, taken_overrun}
use Rattle.mw_drive.proofs.Passing.{passed_exit}
use Rattle.mw_drive.proofs.performing.take.Goals as goal

pub returns-then-not-is_open-clause-ok : goal.returns-then-not-is_open-clause-ok
returns-then-not-is_open-clause-ok g c digest seed life keeps going =
    let absent : is_some (session_in life.room.sessions c.args.session) ≡ false = sym (c.is_open.ensures digest life keeps) ∙ c.if-not-is_open.true in
    performed_none g.D.Disk.may_leave g.D.Disk.faults digest seed life (takes c.args.session) refl _ c.args.kept.now keeps going (absent_calls life (takes c.args.session) c.args.session refl absent)
    (absent_text life (takes c.args.session) c.args.session _ refl absent (c.in_ok-gone.ensures ∙ ap gone_line c.get.ensures))

pub returns-in_err-reply-clause-err : goal.returns-in_err-reply-clause-err
returns-in_err-reply-clause-err g c =
    passed_exit (λ error. StopsIn g.D.Disk.may_leave g.D.Disk.faults c.args.kept.now (takes c.args.session) error c.act.new.kept) c.from_residual-in_err-reply.result c.in_err-reply.field-0.0
    (λ digest seed life keeps going.
    let there : is_some (session_in life.room.sessions c.args.session) ≡ true = sym (c.is_open.ensures digest life keeps) ∙ c.if-not-is_open.false in
    stopped_by g.D.Disk.may_leave g.D.Disk.faults digest seed life (takes c.args.session) refl (take_call c.args.session ∷ []) c.args.kept.now c.act.new.kept c.in_err-reply.field-0.0
    (present_calls life (takes c.args.session) c.args.session refl there) (c.in_err-reply.ensures.err digest seed life keeps going))
    c.from_residual-in_err-reply.ensures.1

pub returns-in_err-messages-in-Some-clause-err : goal.returns-in_err-messages-in-Some-clause-err
returns-in_err-messages-in-Some-clause-err g c =
    passed_exit (λ error. StopsIn g.D.Disk.may_leave g.D.Disk.faults c.args.kept.now (takes c.args.session) error c.act.new.kept) c.from_residual-in_err-messages-in-Some.result Memory
    (λ digest seed life keeps going.
    lacks_memory g.D.Disk.may_leave g.D.Disk.faults digest seed life (takes c.args.session) refl (take_call c.args.session ∷ []) (life_after life (take_call c.args.session) fine) c.args.kept.now c.act.new.kept refl
    (c.in_ok-reply.ensures.ok digest seed life keeps going).keeps)
    c.from_residual-in_err-messages-in-Some.ensures.1

pub returns-in_err-overrun-in-None-clause-err : goal.returns-in_err-overrun-in-None-clause-err
returns-in_err-overrun-in-None-clause-err g c =
    passed_exit (λ error. StopsIn g.D.Disk.may_leave g.D.Disk.faults c.args.kept.now (takes c.args.session) error c.act.new.kept) c.from_residual-in_err-overrun-in-None.result Memory
    (λ digest seed life keeps going.
    lacks_memory g.D.Disk.may_leave g.D.Disk.faults digest seed life (takes c.args.session) refl (take_call c.args.session ∷ []) (life_after life (take_call c.args.session) fine) c.args.kept.now c.act.new.kept refl
    (c.in_ok-reply.ensures.ok digest seed life keeps going).keeps)
    c.from_residual-in_err-overrun-in-None.ensures.1

pub returns-in_ok-messages-in-Some-clause-ok : goal.returns-in_ok-messages-in-Some-clause-ok
returns-in_ok-messages-in-Some-clause-ok g c digest seed life keeps going =
    let there : is_some (session_in life.room.sessions c.args.session) ≡ true = sym (c.is_open.ensures digest life keeps) ∙ c.if-not-is_open.false in
    let call = take_call c.args.session in
    let d = c.in_ok-reply.ensures.ok digest seed life keeps going in
    performed_by g.D.Disk.may_leave g.D.Disk.faults digest seed life (takes c.args.session) refl (call ∷ []) (meet_overrun life (call ∷ [])) _ c.act.new.kept
    (present_calls life (takes c.args.session) c.args.session refl there)
    (one_done g.D.Disk.may_leave digest seed life call (reply_view c.in_ok-reply.reply) c.act.new.kept d)
    (taken_texts life c.args.session there going.unstopped d.goes (reply_view c.in_ok-reply.reply) d.replies c.in-Some.texts _ c.in-Some.ensures (c.in_ok-messages-in-Some.ensures ∙ ap (λ n. message_lines n c.in-Some.texts) c.get-in-Some.ensures))

pub returns-in_ok-overrun-in-None-clause-ok : goal.returns-in_ok-overrun-in-None-clause-ok
returns-in_ok-overrun-in-None-clause-ok g c digest seed life keeps going =
    let there : is_some (session_in life.room.sessions c.args.session) ≡ true = sym (c.is_open.ensures digest life keeps) ∙ c.if-not-is_open.false in
    let call = take_call c.args.session in
    let d = c.in_ok-reply.ensures.ok digest seed life keeps going in
    performed_by g.D.Disk.may_leave g.D.Disk.faults digest seed life (takes c.args.session) refl (call ∷ []) (meet_overrun life (call ∷ [])) _ c.act.new.kept
    (present_calls life (takes c.args.session) c.args.session refl there)
    (one_done g.D.Disk.may_leave digest seed life call (reply_view c.in_ok-reply.reply) c.act.new.kept d)
    (taken_overrun life c.args.session there going.unstopped d.goes (reply_view c.in_ok-reply.reply) d.replies _ c.in-None.ensures (c.in_ok-overrun-in-None.ensures ∙ ap overrun_line c.get-in-None.ensures))
