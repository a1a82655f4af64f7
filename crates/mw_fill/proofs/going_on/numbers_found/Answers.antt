use Rattle.std.proofs.Common.{◌≡◌, ◌++◌, sym, ap, ap₂, subst, ◌∙◌}
use Rattle.std.specs.Prelude.{true, false}
use Rattle.mw_multi.specs.Placement.{Put}
use Rattle.mw_reach.specs.Reached.{places_in}
use Rattle.mw_fill.proofs.Owning.{one_between, found_more, found_still}
use Rattle.mw_fill.proofs.going_on.numbers_found.Goals as goal
use Rattle.mw_fill.proofs.going_on.numbers_found.Goals.{then-has+in_ok-extend_from_slice, else-has}

pub loop-index-preserved : goal.loop-index-preserved
loop-index-preserved c = λ joint ordered same.
    let a = c.args in
    let copies = a.order.now.copies.now in
    let laid = a.laid.now in
    let w = places_in a.reached.now in
    let i = c.loop-index.index in
    let put = c.index-laid-index.result in
    let inside = c.loop-index-test.true in
    let is = c.index-laid-index.is in
    let so_far = c.loop-index.invariant joint ordered same in
    let place = ap (λ (p : Put). p.place) c.put.view_is in
    elim c.if-has.branch [
      | then-has+in_ok-extend_from_slice b ↦
          let seen : w put.place ≡ true = subst (λ p. w p ≡ true) place (sym c.has.ensures ∙ b.if-has.true) in
          let own = b.numbers_between.ensures joint ordered ∙ one_between joint copies laid a.from i put c.requires.within same inside is in
          ap (λ v. v.items) b.found-is ∙ b.in_ok-extend_from_slice.ensures.items ∙ ap₂ (λ xs ys. xs ++ ys) so_far own ∙ sym (found_more joint w laid i put inside is seen)
      | else-has b ↦
          let away : w put.place ≡ false = subst (λ p. w p ≡ false) place (sym c.has.ensures ∙ b.if-has.false) in
          ap (λ v. v.items) b.found-is ∙ so_far ∙ sym (found_still joint w laid i put inside is away)
    ]
