use Rattle.std.proofs.Common.{◌≡◌, ◌∷◌, [], ◌∙◌, map, sym, ap, subst, arith}
use Rattle.std.proofs.lemmas.List.{nil_from_length}
use Rattle.std.specs.Vec.Iter.{into_iter_items}
use Rattle.mw_packets_in.specs.View.{inbound_view}
use Rattle.mw_keep.specs.Views.{call_view, reply_view}
use Rattle.mw_drive.specs.Calls.{StopsAmong}
use Rattle.mw_drive.specs.Drive.{call_for}
use Rattle.mw_drive.proofs.Calling.{AreLeft, one_more, one_stops, all_done}
use Rattle.mw_drive.proofs.Passing.{passed_exit}
use Rattle.mw_drive.proofs.performing.call_all.Goals as goal

pub returns-in_err-reply-clause-err : goal.returns-in_err-reply-clause-err
returns-in_err-reply-clause-err g c =
    let l = c.loop-element in
    let all = map (call_for c.args.session) (map inbound_view c.args.message) in
    let rest = map (call_for c.args.session) (map inbound_view (into_iter_items c.next.new.self)) in
    let eq : map (call_for c.args.session) (map inbound_view (into_iter_items l.element-iterator)) ≡ call_view c.call_for.result ∷ rest =
    ap (λ is. map (call_for c.args.session) (map inbound_view is)) c.in-Some.ensures.steps.0 ∙ ap (λ x. x ∷ rest) (sym c.call_for.ensures) in
    passed_exit (λ error. StopsAmong g.D.Disk.may_leave g.D.Disk.faults c.args.kept.now all error c.act.new.kept) c.from_residual.result c.in_err-reply.field-0.0
    (λ digest seed first keeps going.
    let left = subst (λ cs. AreLeft g.D.Disk.may_leave g.D.Disk.faults digest seed first c.args.kept.now l.kept l.met cs all) eq (l.invariant.0 digest seed first keeps going) in
    one_stops g.D.Disk.may_leave g.D.Disk.faults digest seed first c.args.kept.now l.kept c.act.new.kept l.met (call_view c.call_for.result) rest all c.in_err-reply.field-0.0 left
    (c.in_err-reply.ensures.err digest seed left.now left.keeps left.going))
    c.from_residual.ensures.1

pub loop-element-preserved-in_ok-reply : goal.loop-element-preserved-in_ok-reply
loop-element-preserved-in_ok-reply g c =
    let l = c.loop-element in
    let all = map (call_for c.args.session) (map inbound_view c.args.message) in
    let rest = map (call_for c.args.session) (map inbound_view (into_iter_items c.next.new.self)) in
    let eq : map (call_for c.args.session) (map inbound_view (into_iter_items l.element-iterator)) ≡ call_view c.call_for.result ∷ rest =
    ap (λ is. map (call_for c.args.session) (map inbound_view is)) c.in-Some.ensures.steps.0 ∙ ap (λ x. x ∷ rest) (sym c.call_for.ensures) in (
      (λ digest seed first keeps going.
          let left = subst (λ cs. AreLeft g.D.Disk.may_leave g.D.Disk.faults digest seed first c.args.kept.now l.kept l.met cs all) eq (l.invariant.0 digest seed first keeps going) in
          one_more g.D.Disk.may_leave g.D.Disk.faults digest seed first c.args.kept.now l.kept c.act.new.kept l.met c.is_overrun-met.result (call_view c.call_for.result) rest all (reply_view c.in_ok-reply.reply) left
          (c.in_ok-reply.ensures.ok digest seed left.now left.keeps left.going) c.is_overrun-met.ensures c.in_ok-reply.ensures.count),
      c.in_ok-reply.ensures.tells ∙ l.invariant.1,
      omega (arith, l.invariant.2, c.in_ok-reply.ensures.count),
    )

pub loop-element-preserved : goal.loop-element-preserved
loop-element-preserved g c =
    let l = c.loop-element in
    let all = map (call_for c.args.session) (map inbound_view c.args.message) in
    let rest = map (call_for c.args.session) (map inbound_view (into_iter_items c.next.new.self)) in
    let eq : map (call_for c.args.session) (map inbound_view (into_iter_items l.element-iterator)) ≡ call_view c.call_for.result ∷ rest =
    ap (λ is. map (call_for c.args.session) (map inbound_view is)) c.in-Some.ensures.steps.0 ∙ ap (λ x. x ∷ rest) (sym c.call_for.ensures) in (
      (λ digest seed first keeps going.
          let left = subst (λ cs. AreLeft g.D.Disk.may_leave g.D.Disk.faults digest seed first c.args.kept.now l.kept l.met cs all) eq (l.invariant.0 digest seed first keeps going) in
          one_more g.D.Disk.may_leave g.D.Disk.faults digest seed first c.args.kept.now l.kept c.act.new.kept l.met c.is_overrun-met.result (call_view c.call_for.result) rest all (reply_view c.in_ok-reply.reply) left
          (c.in_ok-reply.ensures.ok digest seed left.now left.keeps left.going) c.is_overrun-met.ensures c.in_ok-reply.ensures.count),
      c.in_ok-reply.ensures.tells ∙ l.invariant.1,
      omega (arith, l.invariant.2, c.in_ok-reply.ensures.count),
    )

pub returns-clause-ok : goal.returns-clause-ok
returns-clause-ok g c digest seed first keeps going =
    let l = c.loop-element in
    let all = map (call_for c.args.session) (map inbound_view c.args.message) in
    let none : into_iter_items l.element-iterator ≡ [] = nil_from_length (into_iter_items l.element-iterator) (omega (arith, l.element-iterator.rest.ok.0, c.in-None.ensures.steps.0)) in
    all_done g.D.Disk.may_leave g.D.Disk.faults digest seed first c.args.kept.now l.kept l.met all
    (subst (λ is. AreLeft g.D.Disk.may_leave g.D.Disk.faults digest seed first c.args.kept.now l.kept l.met (map (call_for c.args.session) (map inbound_view is)) all) none (l.invariant.0 digest seed first keeps going))
