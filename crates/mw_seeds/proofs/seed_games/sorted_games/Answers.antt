use Rattle.std.proofs.Common.{is_lt, map, nat_cmp, rules, sym, subst}
use Rattle.std.specs.Cmp.Lexicographic.{slice_cmp}
use Rattle.std.proofs.lemmas.Cmp.{nat_list_cmp_total}
use Rattle.std.proofs.lemmas.List.Sorted.{answers_always, ranks_by}
use Rattle.mw_model.specs.Ascending.{NamesAscend}
use Rattle.mw_multidata.specs.SeedKept.{game_name}
use Rattle.mw_seeds.proofs.Sorting.{games_ascend}
use Rattle.mw_seeds.proofs.seed_games.sorted_games.Goals as goal

pub returns-clause-ascend : goal.returns-clause-ascend
returns-clause-ascend c =
    subst (λ games. NamesAscend (map game_name games)) (sym c.from_vec.ensures) (games_ascend c.args.games.items c.sort_unstable_by.new.self.items c.sort_unstable_by.ensures.permutation
    (c.sort_unstable_by.ensures.sorted (λ a b. is_lt (slice_cmp nat_cmp a.name b.name)) (ranks_by nat_list_cmp_total game_name) (answers_always _ _ _ (λ f a r g h. search rules))) c.requires)
