use Rattle.std.proofs.Common.{◌∙◌, length, ap, ap₂, arith, subst, sym}
use Rattle.mw_multi.specs.Placement.{numbers_at}
use Rattle.mw_reach.specs.Cut.{cut_from, AreEnds}
use Rattle.mw_reach.proofs.Cutting.{cut_size}
use Rattle.mw_reach.proofs.table.Table.at.Goals as goal

pub list_at-requires-clause-ends : goal.list_at-requires-clause-ends
list_at-requires-clause-ends c =
    subst (λ ns. AreEnds 0 c.as_slice.result.now ns) (sym c.as_slice-2.ensures.value) (subst (λ es. AreEnds 0 es c.self.inside.numbers.items) (sym c.as_slice.ensures.value) c.self.invariant)

pub list_at-requires-clause-key : goal.list_at-requires-clause-key
list_at-requires-clause-key c = omega (arith, c.requires, ap length c.self.view_is, cut_size 0 c.self.inside.ends.items c.self.inside.numbers.items, ap length c.as_slice.ensures.value)

pub returns : goal.returns
returns c =
    c.list_at.ensures
    ∙ ap₂ (λ es ns. numbers_at (cut_from 0 es ns) c.args.key) c.as_slice.ensures.value c.as_slice-2.ensures.value
    ∙ ap (λ t. numbers_at t c.args.key) c.self.view_is
