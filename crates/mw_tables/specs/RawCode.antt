-- For proofs alone. How plain rules as they are written are told apart: each is what some `RawRule` stands for.
use Rattle.std.specs.Coded.{Coded, code_by}
use mathlib.Core.Path.{◌≡◌, refl, ap, ◌∙◌}
use Rattle.std.specs.Prelude.{List, [], ◌∷◌}
use Rattle.mw_tables.specs.Raw as meaning
use Rattle.mw_tables.specs.RawView.{raw_view, raw_rules_view}
use Rattle.mw_tables.specs.contracts.raw_rule.RawRule as row
use Rattle.mw_tables.specs.declared.raw_rule.RawRule.{RawRule}
use Rattle.mw_tables.specs.declared.raw_rule.RawRule.TheVariants.{Always, Never, Has, HasAll, HasAny, Count, Region, Location, And, Or}
use Rattle.mw_tables.specs.RawViews.{raw_view_of_always, raw_view_of_never, raw_view_of_has, raw_view_of_has_all, raw_view_of_has_any, raw_view_of_count, raw_view_of_region, raw_view_of_location, raw_view_of_and, raw_view_of_or}

-- a rule that stands for this one
abbrev mutual
  pub written : meaning.RawRule → RawRule
  written meaning.always = Always
  written meaning.never = Never
  written (meaning.has n k) = Has n k
  written (meaning.has_all ns) = HasAll ns
  written (meaning.has_any ns) = HasAny ns
  written (meaning.has_count ns k) = Count ns k
  written (meaning.reach_region n) = Region n
  written (meaning.reach_location n) = Location n
  written (meaning.all_of rs) = And (all_written rs)
  written (meaning.some_of rs) = Or (all_written rs)

  pub all_written : meaning.RawRules → List RawRule
  all_written meaning.no_rules = []
  all_written (meaning.a_rule r rs) = written r ∷ all_written rs

mutual
  pub stands_for_it : (r : meaning.RawRule) → raw_view (written r) ≡ r
  stands_for_it meaning.always = raw_view_of_always
  stands_for_it meaning.never = raw_view_of_never
  stands_for_it (meaning.has n k) = raw_view_of_has n k
  stands_for_it (meaning.has_all ns) = raw_view_of_has_all ns
  stands_for_it (meaning.has_any ns) = raw_view_of_has_any ns
  stands_for_it (meaning.has_count ns k) = raw_view_of_count ns k
  stands_for_it (meaning.reach_region n) = raw_view_of_region n
  stands_for_it (meaning.reach_location n) = raw_view_of_location n
  stands_for_it (meaning.all_of rs) = raw_view_of_and (all_written rs) ∙ ap meaning.all_of
      (stand_for_them rs)
  stands_for_it (meaning.some_of rs) = raw_view_of_or (all_written rs) ∙ ap meaning.some_of
      (stand_for_them rs)

  pub stand_for_them : (rs : meaning.RawRules) → raw_rules_view (all_written rs) ≡ rs
  stand_for_them meaning.no_rules = refl
  stand_for_them (meaning.a_rule r rs) = ap
      (λ x. meaning.a_rule x (raw_rules_view (all_written rs))) (stands_for_it r) ∙ ap
      (meaning.a_rule r) (stand_for_them rs)

abbrev pub coded_raw_rule : Coded meaning.RawRule
coded_raw_rule = code_by RawRule row.the_row.coded written raw_view stands_for_it
