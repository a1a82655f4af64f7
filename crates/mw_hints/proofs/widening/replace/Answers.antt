use Rattle.std.proofs.Common.{[], ap, ◌∙◌}
use Rattle.indexmap.specs.IndexMap.{insert_all}
use Rattle.mw_hints.proofs.Widened.{all_in_turn}
use Rattle.mw_hints.proofs.widening.replace.Goals as goal

pub returns-clause-entries : goal.returns-clause-entries
returns-clause-entries g c =
    let entries = c.args.map.now.entries in
    let eq = g.K.PartialEq.eq in
    ap (λ m. m.entries) c.swap.ensures.x_after
    ∙ (rw c.unwrap.ensures at c.append.ensures.entries)
    ∙ ap (λ done. insert_all eq done entries) c.requires.empty
    ∙ all_in_turn eq g.met.K.Eq.laws [] entries c.len-count.ensures.unique
