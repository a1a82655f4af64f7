use Rattle.std.proofs.Common.{◌≡◌, ◌∙◌, ◌++◌, ◌∷◌, [], arith, ap, map, rules, subst, sym}
use Rattle.std.proofs.lemmas.List.{nil_from_length}
use Rattle.std.specs.Vec.Iter.{into_iter_items}
use Rattle.mw_keep.specs.Views.{call_view}
use Rattle.mw_offline.specs.Stressing.{taken_by, taker, texts_of}
use Rattle.mw_offline.proofs.Sessions.{IsOnWay, at_end, at_start, further, passed_is, stops_here}
use Rattle.mw_offline.proofs.stress_room.act_all.Goals as goal

pub loop-call-init : goal.loop-call-init
loop-call-init g c digest seed first keeps going =
    let items : into_iter_items c.into_iter-call-iterator.result ≡ c.args.calls = search rules in
    rw (c.new-taken.ensures, items)
    (at_start g.D.Disk.may_leave g.D.Disk.faults digest seed first c.args.kept.now (map call_view c.args.calls) keeps going)

pub returns-in_err-texts-clause-full : goal.returns-in_err-texts-clause-full
returns-in_err-texts-clause-full g c passed digest seed first keeps going =
    let D = g.D.Disk in
    let l = c.loop-call in
    let all = map call_view c.args.calls in
    let rest = map call_view (into_iter_items c.next.new.self) in
    let left = subst (λ cs. IsOnWay D.may_leave D.faults digest seed first c.args.kept.now l.kept l.taken cs all) (ap (map call_view) c.in-Some.ensures.steps.0) (l.invariant digest seed first keeps going) in
    (stops_here D.may_leave D.faults digest seed first c.args.kept.now l.kept c.act.new.kept l.taken (call_view c.in-Some.call) rest all c.in_err-texts.field-0.0 left
    (c.in_err-texts.ensures.err digest seed left.now left.keeps left.going)).0
    (passed_is c.from_residual.result c.in_err-texts.field-0.0 _ c.from_residual.ensures.1 passed)

pub returns-in_err-texts-clause-fault : goal.returns-in_err-texts-clause-fault
returns-in_err-texts-clause-fault g c passed digest seed first keeps going =
    let D = g.D.Disk in
    let l = c.loop-call in
    let all = map call_view c.args.calls in
    let rest = map call_view (into_iter_items c.next.new.self) in
    let left = subst (λ cs. IsOnWay D.may_leave D.faults digest seed first c.args.kept.now l.kept l.taken cs all) (ap (map call_view) c.in-Some.ensures.steps.0) (l.invariant digest seed first keeps going) in
    (stops_here D.may_leave D.faults digest seed first c.args.kept.now l.kept c.act.new.kept l.taken (call_view c.in-Some.call) rest all c.in_err-texts.field-0.0 left
    (c.in_err-texts.ensures.err digest seed left.now left.keeps left.going)).1
    (passed_is c.from_residual.result c.in_err-texts.field-0.0 _ c.from_residual.ensures.1 passed)

pub loop-call-preserved : goal.loop-call-preserved
loop-call-preserved g c digest seed first keeps going =
    let D = g.D.Disk in
    let l = c.loop-call in
    let call = call_view c.in-Some.call in
    let all = map call_view c.args.calls in
    let rest = map call_view (into_iter_items c.next.new.self) in
    let left = subst (λ cs. IsOnWay D.may_leave D.faults digest seed first c.args.kept.now l.kept l.taken cs all) (ap (map call_view) c.in-Some.ensures.steps.0) (l.invariant digest seed first keeps going) in
    let reply = c.in_ok-texts.ensures.ok.0 in
    let taken : c.push_taken.new.taken ≡ l.taken ++ taken_by (taker call) (texts_of reply) =
    c.in_ok-push_taken.ensures ∙ ap (λ s. l.taken ++ taken_by s c.in_ok-texts.texts) c.taker-session.ensures ∙ ap (λ t. l.taken ++ taken_by (taker call) t) c.in_ok-texts.ensures.ok.1 in
    subst (λ t. IsOnWay D.may_leave D.faults digest seed first c.args.kept.now c.act.new.kept t rest all) (sym taken)
    (further D.may_leave D.faults digest seed first c.args.kept.now l.kept c.act.new.kept l.taken call rest all reply left
    (c.in_ok-texts.ensures.ok.2 digest seed left.now left.keeps left.going) c.in_ok-texts.ensures.count)

pub returns-clause-ok : goal.returns-clause-ok
returns-clause-ok g c digest seed first keeps going =
    let D = g.D.Disk in
    let l = c.loop-call in
    let none : into_iter_items l.call-iterator ≡ [] = nil_from_length (into_iter_items l.call-iterator) (omega (arith, l.call-iterator.rest.ok.0, c.in-None.ensures.steps.0)) in
    at_end D.may_leave D.faults digest seed first c.args.kept.now l.kept l.taken (map call_view c.args.calls)
    (subst (λ is. IsOnWay D.may_leave D.faults digest seed first c.args.kept.now l.kept l.taken (map call_view is) (map call_view c.args.calls)) none (l.invariant digest seed first keeps going))
