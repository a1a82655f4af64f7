use Rattle.std.proofs.Common.{eqb, ap, sym, subst, ◌∙◌}
use Rattle.std.specs.List.Sorted.{IsStrictlyIncreasing}
use Rattle.std.proofs.lemmas.List.Filters.{dedup_is}
use Rattle.std.proofs.lemmas.List.Sorted.{list_any-IsPermutation}
use Rattle.std.proofs.lemmas.Map.Keys.{IsStrictlyIncreasing-dedup}
use Rattle.mw_rules.specs.Names.{is_among}
use Rattle.mw_rules.proofs.Once.{among-dedup}
use Rattle.mw_rules.proofs.named.each_once.Goals as goal

-- the result is the sorted list without its repeats
pub returns-clause-ascend : goal.returns-clause-ascend
returns-clause-ascend c =
    let sorted = c.sort_unstable.new.self.items in
    let left = dedup_is eqb sorted c.dedup.new.self.items c.dedup.ensures.filtered in
    subst IsStrictlyIncreasing (sym (c.from_vec.ensures ∙ left)) (IsStrictlyIncreasing-dedup sorted c.sort_unstable.ensures.sorted)

pub returns-clause-same : goal.returns-clause-same
returns-clause-same c n =
    let sorted = c.sort_unstable.new.self.items in
    let left = dedup_is eqb sorted c.dedup.new.self.items c.dedup.ensures.filtered in
    ap (λ ms. is_among ms n) (c.from_vec.ensures ∙ left) ∙ among-dedup n sorted
    ∙ sym (list_any-IsPermutation (λ m. eqb m n) c.args.numbers.items sorted c.sort_unstable.ensures.permutation)
