use Rattle.std.proofs.Common.{◌≡◌, ◌∷◌, [], ◌∙◌, map, sym, ap, subst, arith}
use Rattle.std.proofs.lemmas.List.{nil_from_length}
use Rattle.std.specs.Vec.Iter.{into_iter_items}
use Rattle.mw_packets_in.specs.View.{inbound_view}
use Rattle.mw_keep.specs.Views.{call_view}
use Rattle.mw_session.specs.Asked.{call_for}
use Rattle.mw_session.proofs.Turns.{ActsFirst, acts_first, acts_more, acts_end, acts_all, makes_lock}
use Rattle.mw_session.proofs.session.act_all.Goals as goal

pub loop-element-init : goal.loop-element-init
loop-element-init g c =
    let all = map (call_for c.args.session) (map inbound_view c.args.message) in
    let same = c.into_iter-element-iterator.ensures.into_iter_gives.0 ∙ c.into_vec-element-items.ensures in (
      c.requires.lock,
      subst (λ is. ActsFirst all c.args.pass.now (map (call_for c.args.session) (map inbound_view is)) c.args.pass.now) (sym same) (acts_first all c.args.pass.now),
    )

pub returns-in-Some-end_by : goal.returns-in-Some-end_by
returns-in-Some-end_by g c =
    let l = c.loop-element in
    let all = map (call_for c.args.session) (map inbound_view c.args.message) in
    let rest = map (call_for c.args.session) (map inbound_view (into_iter_items c.next.new.self)) in
    let eq : map (call_for c.args.session) (map inbound_view (into_iter_items l.element-iterator)) ≡ call_view c.call_for.result ∷ rest =
    ap (λ is. map (call_for c.args.session) (map inbound_view is)) c.in-Some.ensures.steps.0 ∙ ap (λ x. x ∷ rest) (sym c.call_for.ensures.call) in
    acts_end all rest c.args.pass.now l.pass c.call-reply.new.pass c.call_for.result c.call-reply.result
    (subst (λ cs. ActsFirst all c.args.pass.now cs l.pass) eq l.invariant.1) (c.call_for.ensures.untaken c.call-reply.result) c.call-reply.ensures.made
    c.in-Some-end_by.ended (sym c.end_by.ensures ∙ c.in-Some-end_by.is)

pub loop-element-preserved-in_default : goal.loop-element-preserved-in_default
loop-element-preserved-in_default g c =
    let l = c.loop-element in
    let all = map (call_for c.args.session) (map inbound_view c.args.message) in
    let rest = map (call_for c.args.session) (map inbound_view (into_iter_items c.next.new.self)) in
    let eq : map (call_for c.args.session) (map inbound_view (into_iter_items l.element-iterator)) ≡ call_view c.call_for.result ∷ rest =
    ap (λ is. map (call_for c.args.session) (map inbound_view is)) c.in-Some.ensures.steps.0 ∙ ap (λ x. x ∷ rest) (sym c.call_for.ensures.call) in (
      makes_lock l.pass c.call-reply.new.pass _ c.call-reply.ensures.made ∙ l.invariant.0,
      acts_more all rest c.args.pass.now l.pass c.call-reply.new.pass c.call_for.result c.call-reply.result
          (subst (λ cs. ActsFirst all c.args.pass.now cs l.pass) eq l.invariant.1) (c.call_for.ensures.untaken c.call-reply.result) c.call-reply.ensures.made
          (sym c.end_by.ensures ∙ c.in_default.is),
    )

pub loop-element-preserved : goal.loop-element-preserved
loop-element-preserved g c =
    let l = c.loop-element in
    let all = map (call_for c.args.session) (map inbound_view c.args.message) in
    let rest = map (call_for c.args.session) (map inbound_view (into_iter_items c.next.new.self)) in
    let eq : map (call_for c.args.session) (map inbound_view (into_iter_items l.element-iterator)) ≡ call_view c.call_for.result ∷ rest =
    ap (λ is. map (call_for c.args.session) (map inbound_view is)) c.in-Some.ensures.steps.0 ∙ ap (λ x. x ∷ rest) (sym c.call_for.ensures.call) in (
      makes_lock l.pass c.call-reply.new.pass _ c.call-reply.ensures.made ∙ l.invariant.0,
      acts_more all rest c.args.pass.now l.pass c.call-reply.new.pass c.call_for.result c.call-reply.result
          (subst (λ cs. ActsFirst all c.args.pass.now cs l.pass) eq l.invariant.1) (c.call_for.ensures.untaken c.call-reply.result) c.call-reply.ensures.made
          (sym c.end_by.ensures ∙ c.in_default.is),
    )

pub returns : goal.returns
returns g c =
    let l = c.loop-element in
    let all = map (call_for c.args.session) (map inbound_view c.args.message) in
    let none : into_iter_items l.element-iterator ≡ [] = nil_from_length (into_iter_items l.element-iterator) (omega (arith, l.element-iterator.rest.ok.0, c.in-None.ensures.steps.0)) in
    acts_all all c.args.pass.now l.pass (subst (λ is. ActsFirst all c.args.pass.now (map (call_for c.args.session) (map inbound_view is)) l.pass) none l.invariant.1)
