use Rattle.std.proofs.Common.{◌≡◌, [], All, sym, ap, subst, ◌∙◌}
use Rattle.std.proofs.lemmas.List.{take_at}
use Rattle.mw_fill.specs.Openings.{regular}
use Rattle.mw_fill.specs.Fill.{filled, stuck, FillRun}
use Rattle.mw_fill.specs.Try.{Lists, the_rest, IsOutcome}
use Rattle.mw_fill.specs.Kept.{OpeningKept, IsHeldFor}
use Rattle.mw_fill.specs.Answer.{OnStuck}
use Rattle.mw_fill.proofs.Trying.{regular_all, on_stuck, run_same, stuck_first, stuck_rest, rest_filled, passed_on}
use Rattle.mw_fill.proofs.Asked.{asks_alike, asks_all, asks_passed}
use Rattle.mw_fill.proofs.one_try.place_all.Goals as goal

pub place_asked-requires-clause-openings : goal.place_asked-requires-clause-openings
place_asked-requires-clause-openings g c =
    let joint = c.args.joint.now in
    let lists = c.args.lists.now in
    let places : c.as_slice-places.result.now ≡ regular lists.openings = c.as_slice-places.ensures ∙ c.in_ok-places.ensures ∙ ap regular (c.as_slice.ensures ∙ ap (λ (l : Lists). l.openings) c.lists.view_is) in
    subst (All (OpeningKept joint)) (sym places) (regular_all (OpeningKept joint) lists.openings c.requires.lists.openings)

pub returns-in_err-held-clause-answer : goal.returns-in_err-held-clause-answer
returns-in_err-held-clause-answer g c =
    let joint = c.args.joint.now in
    let lists = c.args.lists.now in
    let places : c.as_slice-places.result.now ≡ regular lists.openings = c.as_slice-places.ensures ∙ c.in_ok-places.ensures ∙ ap regular (c.as_slice.ensures ∙ ap (λ (l : Lists). l.openings) c.lists.view_is) in
    let asked : c.as_slice-asked.result.now ≡ lists.asked = c.as_slice-asked.ensures ∙ ap (λ (l : Lists). l.asked) c.lists.view_is in
    passed_on c.from_residual-in_err-held.result _ (λ e. OnStuck e (λ slot item. IsOutcome joint lists (stuck slot item))) _
    (on_stuck _ (λ slot item. FillRun joint c.as_slice-places.result.now c.as_slice-asked.result.now [] (stuck slot item)) (λ slot item. IsOutcome joint lists (stuck slot item))
    (λ slot item run. stuck_first joint lists slot item (run_same joint c.as_slice-places.result.now (regular lists.openings) c.as_slice-asked.result.now lists.asked (stuck slot item) places asked run)) c.in_err-held.ensures.answer)
    c.from_residual-in_err-held.ensures.1

pub returns-in_err-place_rest-clause-answer : goal.returns-in_err-place_rest-clause-answer
returns-in_err-place_rest-clause-answer g c =
    let joint = c.args.joint.now in
    let lists = c.args.lists.now in
    let places : c.as_slice-places.result.now ≡ regular lists.openings = c.as_slice-places.ensures ∙ c.in_ok-places.ensures ∙ ap regular (c.as_slice.ensures ∙ ap (λ (l : Lists). l.openings) c.lists.view_is) in
    let asked : c.as_slice-asked.result.now ≡ lists.asked = c.as_slice-asked.ensures ∙ ap (λ (l : Lists). l.asked) c.lists.view_is in
    let first = c.in_ok-held.ensures.answer in
    let run = run_same joint c.as_slice-places.result.now (regular lists.openings) c.as_slice-asked.result.now lists.asked (filled first.0) places asked first.2 in
    let held = subst (IsHeldFor joint first.0) (sym c.as_mut_slice.ensures.value) first.1 in
    passed_on c.from_residual-in_err-place_rest.result _ (λ e. OnStuck e (λ slot item. IsOutcome joint lists (stuck slot item))) _
    (on_stuck _ (λ slot item. the_rest lists first.0 ≡ stuck slot item) (λ slot item. IsOutcome joint lists (stuck slot item))
    (λ slot item e. stuck_rest joint lists first.0 slot item run e) (c.in_err-place_rest.ensures first.0 held))
    c.from_residual-in_err-place_rest.ensures.1

pub returns-clause-answer : goal.returns-clause-answer
returns-clause-answer g c =
    let joint = c.args.joint.now in
    let lists = c.args.lists.now in
    let places : c.as_slice-places.result.now ≡ regular lists.openings = c.as_slice-places.ensures ∙ c.in_ok-places.ensures ∙ ap regular (c.as_slice.ensures ∙ ap (λ (l : Lists). l.openings) c.lists.view_is) in
    let asked : c.as_slice-asked.result.now ≡ lists.asked = c.as_slice-asked.ensures ∙ ap (λ (l : Lists). l.asked) c.lists.view_is in
    let first = c.in_ok-held.ensures.answer in
    let run = run_same joint c.as_slice-places.result.now (regular lists.openings) c.as_slice-asked.result.now lists.asked (filled first.0) places asked first.2 in
    let held = subst (IsHeldFor joint first.0) (sym c.as_mut_slice.ensures.value) first.1 in
    let end = c.in_ok-place_rest.ensures first.0 held in
    let same = take_at c.place_rest.new.held _ c.in_ok-held.held.len (end.1.size ∙ sym held.size ∙ c.as_mut_slice.ensures.len) in
    (end.0, subst (IsHeldFor joint end.0) (sym same) end.1, rest_filled joint lists first.0 end.0 run end.2)

pub returns-in_err-held-clause-steps : goal.returns-in_err-held-clause-steps
returns-in_err-held-clause-steps g c =
    let joint = c.args.joint.now in
    let lists = c.args.lists.now in
    let places : c.as_slice-places.result.now ≡ regular lists.openings = c.as_slice-places.ensures ∙ c.in_ok-places.ensures ∙ ap regular (c.as_slice.ensures ∙ ap (λ (l : Lists). l.openings) c.lists.view_is) in
    let asked : c.as_slice-asked.result.now ≡ lists.asked = c.as_slice-asked.ensures ∙ ap (λ (l : Lists). l.asked) c.lists.view_is in
    let answer = c.from_residual-in_err-held.result in
    asks_alike joint c.as_slice-places.result.now (regular lists.openings) c.as_slice-asked.result.now lists.asked answer _ _ places asked
    (asks_passed joint c.as_slice-places.result.now c.as_slice-asked.result.now _ answer _ _ c.in_err-held.ensures.steps c.from_residual-in_err-held.ensures.1)

pub returns-in_err-place_rest-clause-steps : goal.returns-in_err-place_rest-clause-steps
returns-in_err-place_rest-clause-steps g c =
    let joint = c.args.joint.now in
    let lists = c.args.lists.now in
    let places : c.as_slice-places.result.now ≡ regular lists.openings = c.as_slice-places.ensures ∙ c.in_ok-places.ensures ∙ ap regular (c.as_slice.ensures ∙ ap (λ (l : Lists). l.openings) c.lists.view_is) in
    let asked : c.as_slice-asked.result.now ≡ lists.asked = c.as_slice-asked.ensures ∙ ap (λ (l : Lists). l.asked) c.lists.view_is in
    let answer = c.from_residual-in_err-place_rest.result in
    asks_alike joint c.as_slice-places.result.now (regular lists.openings) c.as_slice-asked.result.now lists.asked answer _ _ places asked
    (asks_all joint c.as_slice-places.result.now c.as_slice-asked.result.now answer _ _ c.in_ok-held.ensures.steps)
