use Rattle.std.proofs.Common.{◌≡◌, Some, length, get_or, sym, ap, subst, ◌∙◌}
use Rattle.std.specs.Prelude.{find, true}
use Rattle.std.proofs.lemmas.List.{get_or_default}
use Rattle.mw_reach.specs.Reached.{places_in}
use Rattle.mw_fill.specs.Openings.{Opening, accepts}
use Rattle.mw_fill.specs.Kept.{is_open_in}
use Rattle.mw_fill.proofs.laying.Laying.sure_location.Goals as goal

pub returns-clause-sure : goal.returns-clause-sure
returns-clause-sure c copy is =
    let a = c.args in
    let copies = a.order.now.copies.now in
    let openings = a.order.now.openings.now in
    let held = a.self.now.held.items in
    let laid = a.self.now.laid in
    let read = get_or copies c.len-2.result c.index-order-len.result in
    let opening = c.in-Some.opening in
    let same : read ≡ copy = ap (λ k. get_or copies k c.index-order-len.result) c.len-2.ensures ∙ get_or_default copies (length laid) c.index-order-len.result copy c.requires.next ∙ sym is in
    let first : find (is_open_in (accepts copy) held) openings ≡ Some opening =
    ap (λ k. find (is_open_in (accepts k) held) openings) (sym same) ∙ ap (λ h. find (is_open_in (accepts read) h) openings) (sym c.as_slice.ensures.value) ∙ sym c.first_accepting.ensures ∙ c.in-Some.is in (
      first,
      subst (λ p. places_in a.reached.now p ≡ true) (ap (λ (s : Opening). s.place) c.opening.view_is) (sym c.has.ensures ∙ c.if-not-has.false),
    )
