use Rattle.std.proofs.Common.{is_lt, nat_cmp, rules, sym, subst}
use Rattle.std.specs.Cmp.Lexicographic.{slice_cmp}
use Rattle.std.proofs.lemmas.Cmp.{nat_list_cmp_total}
use Rattle.std.proofs.lemmas.List.Sorted.{answers_always, ranks_by}
use Rattle.mw_multidata.specs.SeedKept.{entry_name}
use Rattle.mw_seeds.specs.SeedFile.{IsTable}
use Rattle.mw_seeds.proofs.Sorting.{table_sorted}
use Rattle.mw_seeds.proofs.seed_games.sorted_table.Goals as goal

pub returns : goal.returns
returns c =
    subst (IsTable c.args.entries.items) (sym c.from_vec.ensures) (table_sorted c.args.entries.items c.sort_unstable_by.new.self.items c.sort_unstable_by.ensures.permutation
    (c.sort_unstable_by.ensures.sorted (λ a b. is_lt (slice_cmp nat_cmp a.name b.name)) (ranks_by nat_list_cmp_total entry_name) (answers_always _ _ _ (λ f a r g h. search rules))) c.requires)
