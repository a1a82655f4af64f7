-- Lists that pass a test, and what a filter leaves of them.
use Rattle.std.proofs.Common.{◌≡◌, ℕ, List, Bool, true, false, ◌∷◌, [], ◌++◌, take, zero, suc, filter, refl, ap, ap₂, ◌∙◌, append-nil}
use Rattle.std.proofs.lemmas.Bool.{and_parts, and_from, cond_both, cond-true, cond-false}
use Rattle.std.proofs.lemmas.List.Elements.{filter-append}
use Rattle.std.specs.List.{list_all}

module _ {X : Type 0} (p : X → Bool) where
  pub passed-append : (xs ys : List X) → list_all p xs ≡ true → list_all p ys ≡ true → list_all p (xs ++ ys) ≡ true
  passed-append [] ys h k = k
  passed-append (x ∷ xs) ys h k = and_from (p x) (list_all p (xs ++ ys)) (and_parts (p x) (list_all p xs) h).0 (passed-append xs ys (and_parts (p x) (list_all p xs) h).1 k)

  pub passed-take : (n : ℕ) (xs : List X) → list_all p xs ≡ true → list_all p (take n xs) ≡ true
  passed-take zero xs h = refl
  passed-take (suc n) [] h = refl
  passed-take (suc n) (x ∷ xs) h = and_from (p x) (list_all p (take n xs)) (and_parts (p x) (list_all p xs) h).0 (passed-take n xs (and_parts (p x) (list_all p xs) h).1)

  pub passed-weaker : (q : X → Bool) → ((x : X) → q x ≡ true → p x ≡ true) → (xs : List X) → list_all q xs ≡ true → list_all p xs ≡ true
  passed-weaker q more [] h = refl
  passed-weaker q more (x ∷ xs) h =
      let parts = and_parts (q x) (list_all q xs) h in
      and_from (p x) (list_all p xs) (more x parts.0) (passed-weaker q more xs parts.1)

  pub passed-filter : (xs : List X) → list_all p (filter p xs) ≡ true
  passed-filter [] = refl
  passed-filter (x ∷ xs) = cond_both (p x) (x ∷ filter p xs) (filter p xs) (λ ys. list_all p ys ≡ true) (λ is. and_from (p x) (list_all p (filter p xs)) is (passed-filter xs)) (λ _. passed-filter xs)

  -- all is left where each passes
  pub filter-all : (xs : List X) → list_all p xs ≡ true → filter p xs ≡ xs
  filter-all [] h = refl
  filter-all (x ∷ xs) h =
      let parts = and_parts (p x) (list_all p xs) h in
      cond-true (p x) (x ∷ filter p xs) (filter p xs) parts.0 ∙ ap (λ ys. x ∷ ys) (filter-all xs parts.1)

  -- nothing is left where each passes a test that this one refuses
  pub filter-none : (q : X → Bool) → ((x : X) → q x ≡ true → p x ≡ false) → (xs : List X) → list_all q xs ≡ true → filter p xs ≡ []
  filter-none q other [] h = refl
  filter-none q other (x ∷ xs) h =
      let parts = and_parts (q x) (list_all q xs) h in
      cond-false (p x) (x ∷ filter p xs) (filter p xs) (other x parts.0) ∙ filter-none q other xs parts.1

  -- of four lists in a row the third is left, where it alone passes
  pub filter-third : (ws us is ps : List X) → filter p ws ≡ [] → filter p us ≡ [] → filter p is ≡ is → filter p ps ≡ [] → filter p (ws ++ (us ++ is) ++ ps) ≡ is
  filter-third ws us is ps no_ws no_us all_is no_ps =
      filter-append p (ws ++ (us ++ is)) ps
      ∙ ap₂ (λ xs ys. xs ++ ys) (filter-append p ws (us ++ is) ∙ ap₂ (λ xs ys. xs ++ ys) no_ws (filter-append p us is ∙ ap₂ (λ xs ys. xs ++ ys) no_us all_is)) no_ps
      ∙ append-nil is
