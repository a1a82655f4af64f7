-- How plain rules are told apart: each is what some `Rule` stands for.
use Rattle.std.specs.Coded.{Coded, code_by}
use mathlib.Core.Path.{◌≡◌, refl, ap, ◌∙◌}
use Rattle.std.specs.Prelude.{List, [], ◌∷◌}
use Rattle.mw_rules.specs.Rule as meaning
use Rattle.mw_rules.specs.View.{view, rules_view}
use Rattle.mw_rules.specs.contracts.rule.Rule as row
use Rattle.mw_rules.specs.declared.rule.Rule.{Rule}
use Rattle.mw_rules.specs.declared.rule.Rule.TheVariants.{Always, Never, Has, HasAll, HasAny, Count, CanReach, And, Or}
use Rattle.mw_rules.proofs.Views.{view_of_always, view_of_never, view_of_has, view_of_has_all, view_of_has_any, view_of_count, view_of_can_reach, view_of_and, view_of_or}

-- a rule that stands for this one
abbrev mutual
  pub written : meaning.Rule → Rule
  written meaning.always = Always
  written meaning.never = Never
  written (meaning.has i n) = Has i n
  written (meaning.has_all is) = HasAll is
  written (meaning.has_any is) = HasAny is
  written (meaning.has_count is n) = Count is n
  written (meaning.can_reach p) = CanReach p
  written (meaning.all_of rs) = And (all_written rs)
  written (meaning.some_of rs) = Or (all_written rs)

  pub all_written : meaning.Rules → List Rule
  all_written meaning.no_rules = []
  all_written (meaning.a_rule r rs) = written r ∷ all_written rs

mutual
  pub stands_for_it : (r : meaning.Rule) → view (written r) ≡ r
  stands_for_it meaning.always = view_of_always
  stands_for_it meaning.never = view_of_never
  stands_for_it (meaning.has i n) = view_of_has i n
  stands_for_it (meaning.has_all is) = view_of_has_all is
  stands_for_it (meaning.has_any is) = view_of_has_any is
  stands_for_it (meaning.has_count is n) = view_of_count is n
  stands_for_it (meaning.can_reach p) = view_of_can_reach p
  stands_for_it (meaning.all_of rs) = view_of_and (all_written rs) ∙ ap meaning.all_of
      (stand_for_them rs)
  stands_for_it (meaning.some_of rs) = view_of_or (all_written rs) ∙ ap meaning.some_of
      (stand_for_them rs)

  pub stand_for_them : (rs : meaning.Rules) → rules_view (all_written rs) ≡ rs
  stand_for_them meaning.no_rules = refl
  stand_for_them (meaning.a_rule r rs) = ap (λ x. meaning.a_rule x (rules_view (all_written rs)))
      (stands_for_it r) ∙ ap (meaning.a_rule r) (stand_for_them rs)

abbrev pub coded_rule : Coded meaning.Rule
coded_rule = code_by Rule row.the_row.coded written view stands_for_it
