-- What a rule names is all that its answer hangs on, and lies within the rule's numbers.
use Rattle.std.proofs.Common.{◌≡◌, ℕ, suc, ◌+◌, ◌<◌, true, ◌&&◌, ◌||◌, eqb, leb, List, [], ◌∷◌, ◌++◌, All, refl, ap, ap₂, ◌∙◌, inl, inr, arith}
use Rattle.std.specs.List.{list_all, list_any}
use Rattle.std.proofs.lemmas.Bool.{false≢true, or_cases, or_left, or_right, eq-eqb, eqb-true}
use Rattle.std.proofs.lemmas.List.Elements.{All-nil, All-cons, All-append}
use Rattle.std.proofs.lemmas.List.Folds.{list_any-append}
use Rattle.mw_rules.specs.Rule.{Rule, always, never, has, has_all, has_any, has_count, can_reach, all_of, some_of, Rules, no_rules, a_rule, IsWithin, AreWithin}
use Rattle.mw_rules.specs.Holds.{Bag, Places, has_one, total, holds, all_hold, some_holds}
use Rattle.mw_rules.specs.Names.{is_among, items_in, items_in_all, places_in, places_in_all}
use Rattle.mw_rules.specs.Laws.{AgreesOnItems, AgreesOnPlaces, HangsOnNames, NamesLieWithin}

-- ---- names of one rule and of those after it

module _ (xs ys : List ℕ) (n : ℕ) where
  among_front : is_among xs n ≡ true → is_among (xs ++ ys) n ≡ true
  among_front e = list_any-append (λ m. eqb m n) xs ys ∙ or_left _ _ e

  among_back : is_among ys n ≡ true → is_among (xs ++ ys) n ≡ true
  among_back e = list_any-append (λ m. eqb m n) xs ys ∙ or_right _ _ e

-- ---- bags and lists that agree on the names

module _ (a b : Bag) where
  total_same : (is : List ℕ) → ((i : ℕ) → is_among is i ≡ true → a i ≡ b i) → total a is ≡ total b is
  total_same [] h = refl
  total_same (i ∷ is) h = ap₂ ◌+◌ (h i (or_left _ _ (eq-eqb i i refl))) (total_same is (λ j e. h j (or_right _ _ e)))

  all_same : (is : List ℕ) → ((i : ℕ) → is_among is i ≡ true → a i ≡ b i) → list_all (has_one a) is ≡ list_all (has_one b) is
  all_same [] h = refl
  all_same (i ∷ is) h = ap₂ ◌&&◌ (ap (leb 1) (h i (or_left _ _ (eq-eqb i i refl)))) (all_same is (λ j e. h j (or_right _ _ e)))

  any_same : (is : List ℕ) → ((i : ℕ) → is_among is i ≡ true → a i ≡ b i) → list_any (has_one a) is ≡ list_any (has_one b) is
  any_same [] h = refl
  any_same (i ∷ is) h = ap₂ ◌||◌ (ap (leb 1) (h i (or_left _ _ (eq-eqb i i refl)))) (any_same is (λ j e. h j (or_right _ _ e)))

  module _ (v w : Places) where
    mutual
      same : (r : Rule) → AgreesOnItems r a b → AgreesOnPlaces r v w → holds r a v ≡ holds r b w
      same always h k = refl
      same never h k = refl
      same (has i n) h k = ap (leb n) (h i (or_left _ _ (eq-eqb i i refl)))
      same (has_all is) h k = all_same is h
      same (has_any is) h k = any_same is h
      same (has_count is n) h k = ap (leb n) (total_same is h)
      same (can_reach p) h k = k p (or_left _ _ (eq-eqb p p refl))
      same (all_of rs) h k = all_rules_same rs h k
      same (some_of rs) h k = some_rules_same rs h k

      all_rules_same : (rs : Rules) → ((i : ℕ) → is_among (items_in_all rs) i ≡ true → a i ≡ b i) → ((p : ℕ) → is_among (places_in_all rs) p ≡ true → v p ≡ w p) → all_hold rs a v ≡ all_hold rs b w
      all_rules_same no_rules h k = refl
      all_rules_same (a_rule r rs) h k = ap₂ ◌&&◌
          (same r (λ i e. h i (among_front (items_in r) (items_in_all rs) i e)) (λ p e. k p (among_front (places_in r) (places_in_all rs) p e)))
          (all_rules_same rs (λ i e. h i (among_back (items_in r) (items_in_all rs) i e)) (λ p e. k p (among_back (places_in r) (places_in_all rs) p e)))

      some_rules_same : (rs : Rules) → ((i : ℕ) → is_among (items_in_all rs) i ≡ true → a i ≡ b i) → ((p : ℕ) → is_among (places_in_all rs) p ≡ true → v p ≡ w p) → some_holds rs a v ≡ some_holds rs b w
      some_rules_same no_rules h k = refl
      some_rules_same (a_rule r rs) h k = ap₂ ◌||◌
          (same r (λ i e. h i (among_front (items_in r) (items_in_all rs) i e)) (λ p e. k p (among_front (places_in r) (places_in_all rs) p e)))
          (some_rules_same rs (λ i e. h i (among_back (items_in r) (items_in_all rs) i e)) (λ p e. k p (among_back (places_in r) (places_in_all rs) p e)))

-- the answer hangs on the names alone
pub hangs_on_names : HangsOnNames
hangs_on_names r a b v w h k = same a b v w r h k

-- ---- names within the rule's numbers

among_within : (below : ℕ) (ns : List ℕ) → All (λ n. n < below) ns → (n : ℕ) → is_among ns n ≡ true → n < below
among_within below [] all n e = absurd (false≢true e)
among_within below (m ∷ ns) all n e = elim (or_cases (eqb m n) (is_among ns n) e) [
  | inl same ↦ omega (arith, all 0 m (omega arith), eqb-true m n same)
  | inr later ↦ among_within below ns (λ k d l. all (suc k) d (omega (arith, l))) n later
]

module _ (items places : ℕ) where
  mutual
    items_within : (r : Rule) → IsWithin items places r → All (λ i. i < items) (items_in r)
    items_within always n = All-nil (λ i. i < items)
    items_within never n = All-nil (λ i. i < items)
    items_within (has i c) n = All-cons (λ j. j < items) i [] n (All-nil (λ j. j < items))
    items_within (has_all is) n = n
    items_within (has_any is) n = n
    items_within (has_count is c) n = n
    items_within (can_reach p) n = All-nil (λ i. i < items)
    items_within (all_of rs) n = all_items_within rs n
    items_within (some_of rs) n = all_items_within rs n

    all_items_within : (rs : Rules) → AreWithin items places rs → All (λ i. i < items) (items_in_all rs)
    all_items_within no_rules n = All-nil (λ i. i < items)
    all_items_within (a_rule r rs) n = All-append (λ i. i < items) (items_in r) (items_in_all rs) (items_within r n.0) (all_items_within rs n.1)

  mutual
    places_within : (r : Rule) → IsWithin items places r → All (λ p. p < places) (places_in r)
    places_within always n = All-nil (λ p. p < places)
    places_within never n = All-nil (λ p. p < places)
    places_within (has i c) n = All-nil (λ p. p < places)
    places_within (has_all is) n = All-nil (λ p. p < places)
    places_within (has_any is) n = All-nil (λ p. p < places)
    places_within (has_count is c) n = All-nil (λ p. p < places)
    places_within (can_reach p) n = All-cons (λ q. q < places) p [] n (All-nil (λ q. q < places))
    places_within (all_of rs) n = all_places_within rs n
    places_within (some_of rs) n = all_places_within rs n

    all_places_within : (rs : Rules) → AreWithin items places rs → All (λ p. p < places) (places_in_all rs)
    all_places_within no_rules n = All-nil (λ p. p < places)
    all_places_within (a_rule r rs) n = All-append (λ p. p < places) (places_in r) (places_in_all rs) (places_within r n.0) (all_places_within rs n.1)

-- a rule names no number past its own
pub names_lie_within : NamesLieWithin
names_lie_within r items places n =
    (among_within items (items_in r) (items_within items places r n), among_within places (places_in r) (places_within items places r n))

-- bags and lists that agree below the rule's numbers give it one answer
pub holds-within : (r : Rule) (items places : ℕ) (a b : Bag) (v w : Places) → IsWithin items places r
    → ((i : ℕ) → i < items → a i ≡ b i) → ((p : ℕ) → p < places → v p ≡ w p) → holds r a v ≡ holds r b w
holds-within r items places a b v w n h k =
    let within = names_lie_within r items places n in
    hangs_on_names r a b v w (λ i e. h i (within.0 i e)) (λ p e. k p (within.1 p e))
