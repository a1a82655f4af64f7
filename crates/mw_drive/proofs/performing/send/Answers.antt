use Rattle.std.proofs.Common.{◌≡◌, ◌∙◌, false, true, map, refl, sym, ap}
use Rattle.std.specs.Option.{is_some}
use Rattle.mw_packets_in.specs.View.{inbound_view}
use Rattle.mw_protocol.specs.Rooms.{session_in}
use Rattle.mw_drive.specs.Calls.{StopsIn}
use Rattle.mw_script.specs.Commands.{sends}
use Rattle.mw_drive.specs.Drive.{gone_line, overrun_line, call_for, life_through}
use Rattle.mw_drive.specs.declared.error.DriveError.TheVariants.{Memory}
use Rattle.mw_drive.proofs.Commanding.{performed_by, performed_none, stopped_by, lacks_memory, absent_calls, absent_text, present_calls, sent_text}
use Rattle.mw_drive.proofs.Passing.{passed_exit}
use Rattle.mw_drive.proofs.performing.send.Goals as goal

pub returns-then-not-is_open-clause-ok : goal.returns-then-not-is_open-clause-ok
returns-then-not-is_open-clause-ok g c digest seed life keeps going =
    let is = map inbound_view c.args.message in
    let absent : is_some (session_in life.room.sessions c.args.session) ≡ false = sym (c.is_open.ensures digest life keeps) ∙ c.if-not-is_open.true in
    performed_none g.D.Disk.may_leave g.D.Disk.faults digest seed life (sends c.args.session is) refl _ c.args.kept.now keeps going (absent_calls life (sends c.args.session is) c.args.session refl absent)
    (absent_text life (sends c.args.session is) c.args.session _ refl absent (c.in_ok-gone.ensures ∙ ap gone_line c.get.ensures))

pub returns-in_err-call_all-clause-err : goal.returns-in_err-call_all-clause-err
returns-in_err-call_all-clause-err g c =
    let is = map inbound_view c.args.message in
    passed_exit (λ error. StopsIn g.D.Disk.may_leave g.D.Disk.faults c.args.kept.now (sends c.args.session is) error c.call_all.new.kept) c.from_residual-in_err-call_all.result c.in_err-call_all.field-0.0
    (λ digest seed life keeps going.
    let there : is_some (session_in life.room.sessions c.args.session) ≡ true = sym (c.is_open.ensures digest life keeps) ∙ c.if-not-is_open.false in
    stopped_by g.D.Disk.may_leave g.D.Disk.faults digest seed life (sends c.args.session is) refl (map (call_for c.args.session) is) c.args.kept.now c.call_all.new.kept c.in_err-call_all.field-0.0
    (present_calls life (sends c.args.session is) c.args.session refl there) (c.in_err-call_all.ensures.err digest seed life keeps going))
    c.from_residual-in_err-call_all.ensures.1

pub returns-in_err-overrun-clause-err : goal.returns-in_err-overrun-clause-err
returns-in_err-overrun-clause-err g c =
    let is = map inbound_view c.args.message in
    passed_exit (λ error. StopsIn g.D.Disk.may_leave g.D.Disk.faults c.args.kept.now (sends c.args.session is) error c.call_all.new.kept) c.from_residual-in_err-overrun.result Memory
    (λ digest seed life keeps going.
    let cs = map (call_for c.args.session) is in
    lacks_memory g.D.Disk.may_leave g.D.Disk.faults digest seed life (sends c.args.session is) refl cs (life_through life cs) c.args.kept.now c.call_all.new.kept refl
    (c.in_ok-call_all.ensures.ok digest seed life keeps going).keeps)
    c.from_residual-in_err-overrun.ensures.1

pub returns-then-branch-clause-ok : goal.returns-then-branch-clause-ok
returns-then-branch-clause-ok g c digest seed life keeps going =
    let is = map inbound_view c.args.message in
    let cs = map (call_for c.args.session) is in
    let there : is_some (session_in life.room.sessions c.args.session) ≡ true = sym (c.is_open.ensures digest life keeps) ∙ c.if-not-is_open.false in
    let d = c.in_ok-call_all.ensures.ok digest seed life keeps going in
    performed_by g.D.Disk.may_leave g.D.Disk.faults digest seed life (sends c.args.session is) refl cs c.in_ok-call_all.field-0 _ c.call_all.new.kept
    (present_calls life (sends c.args.session is) c.args.session refl there) d
    (sent_text life c.args.session is c.in_ok-call_all.field-0 _ there d.meets (λ e. c.in_ok-overrun.ensures ∙ ap overrun_line c.get-then-branch.ensures) (λ e. let clash : true ≡ false = sym c.if-branch.true ∙ e in cc))

pub returns-clause-ok : goal.returns-clause-ok
returns-clause-ok g c digest seed life keeps going =
    let is = map inbound_view c.args.message in
    let cs = map (call_for c.args.session) is in
    let there : is_some (session_in life.room.sessions c.args.session) ≡ true = sym (c.is_open.ensures digest life keeps) ∙ c.if-not-is_open.false in
    let d = c.in_ok-call_all.ensures.ok digest seed life keeps going in
    performed_by g.D.Disk.may_leave g.D.Disk.faults digest seed life (sends c.args.session is) refl cs c.in_ok-call_all.field-0 _ c.call_all.new.kept
    (present_calls life (sends c.args.session is) c.args.session refl there) d
    (sent_text life c.args.session is c.in_ok-call_all.field-0 _ there d.meets (λ e. let clash : true ≡ false = sym e ∙ c.if-branch.false in cc) (λ e. c.new.ensures.bytes))
