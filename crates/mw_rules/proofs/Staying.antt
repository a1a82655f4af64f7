-- With greater counts and more places a true answer stays true.
use Rattle.std.proofs.Common.{◌≡◌, ℕ, ◌≤◌, true, leb, List, [], ◌∷◌, refl, inl, inr, arith}
use Rattle.std.specs.List.{list_all, list_any}
use Rattle.std.proofs.lemmas.Bool.{and_parts, and_from, or_cases, or_left, or_right, leb-true, le-leb}
use Rattle.mw_rules.specs.Rule.{Rule, always, never, has, has_all, has_any, has_count, can_reach, all_of, some_of, Rules, no_rules, a_rule}
use Rattle.mw_rules.specs.Holds.{Bag, Places, has_one, total, holds, all_hold, some_holds}
use Rattle.mw_rules.specs.Laws.{HasNoLess, IsPartOf, StaysTrue}

le_stays : (n a b : ℕ) → a ≤ b → leb n a ≡ true → leb n b ≡ true
le_stays n a b h e = le-leb n b (omega (arith, leb-true n a e))

module _ (a b : Bag) (h : HasNoLess a b) where
  total_more : (is : List ℕ) → total a is ≤ total b is
  total_more [] = omega arith
  total_more (i ∷ is) = omega (arith, h i, total_more is)

  all_stay : (is : List ℕ) → list_all (has_one a) is ≡ true → list_all (has_one b) is ≡ true
  all_stay [] e = refl
  all_stay (i ∷ is) e =
      let p = and_parts (has_one a i) (list_all (has_one a) is) e in
      and_from _ _ (le_stays 1 (a i) (b i) (h i) p.0) (all_stay is p.1)

  any_stays : (is : List ℕ) → list_any (has_one a) is ≡ true → list_any (has_one b) is ≡ true
  any_stays [] e = e
  any_stays (i ∷ is) e = elim (or_cases (has_one a i) (list_any (has_one a) is) e) [
    | inl p ↦ or_left _ _ (le_stays 1 (a i) (b i) (h i) p)
    | inr q ↦ or_right _ _ (any_stays is q)
  ]

  module _ (v w : Places) (k : IsPartOf v w) where
    mutual
      stays : (r : Rule) → holds r a v ≡ true → holds r b w ≡ true
      stays always e = refl
      stays never e = e
      stays (has i n) e = le_stays n (a i) (b i) (h i) e
      stays (has_all is) e = all_stay is e
      stays (has_any is) e = any_stays is e
      stays (has_count is n) e = le_stays n (total a is) (total b is) (total_more is) e
      stays (can_reach p) e = k p e
      stays (all_of rs) e = all_rules_stay rs e
      stays (some_of rs) e = some_rule_stays rs e

      all_rules_stay : (rs : Rules) → all_hold rs a v ≡ true → all_hold rs b w ≡ true
      all_rules_stay no_rules e = refl
      all_rules_stay (a_rule r rs) e =
          let p = and_parts (holds r a v) (all_hold rs a v) e in
          and_from _ _ (stays r p.0) (all_rules_stay rs p.1)

      some_rule_stays : (rs : Rules) → some_holds rs a v ≡ true → some_holds rs b w ≡ true
      some_rule_stays no_rules e = e
      some_rule_stays (a_rule r rs) e = elim (or_cases (holds r a v) (some_holds rs a v) e) [
        | inl p ↦ or_left _ _ (stays r p)
        | inr q ↦ or_right _ _ (some_rule_stays rs q)
      ]

pub stays_true : StaysTrue
stays_true r a b v w h k e = stays a b h v w k r e
