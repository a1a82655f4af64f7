use Rattle.std.proofs.Common.{Global, [], ap, ◌∙◌}
use Rattle.std.specs.Prelude.{string_eq}
use Rattle.std.specs.String.{string_eq_equiv}
use Rattle.indexmap.specs.IndexMap.{insert_all}
use Rattle.mw_storage.proofs.Entries.{all_in_turn}
use Rattle.mw_storage.proofs.growth.replace.Goals as goal

pub returns-clause-entries : goal.returns-clause-entries
returns-clause-entries c =
    let entries = c.args.kept.now.entries in
    let eq = string_eq {Z = Global} in
    ap (λ m. m.entries) c.swap.ensures.x_after
    ∙ (rw c.unwrap.ensures at c.append.ensures.entries)
    ∙ ap (λ done. insert_all eq done entries) c.requires.empty
    ∙ all_in_turn eq string_eq_equiv [] entries c.len-count.ensures.unique
