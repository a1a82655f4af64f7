-- What holds of each two elements of a list.
use Rattle.std.proofs.Common.{zero, suc, List, Bool, true, false, cond, ◌∷◌, [], ◌++◌, filter, All, AllPairs, arith}
use Rattle.mw_laws.proofs.Each.{Each}

-- it holds of each element and each later one
abbrev pub Pairs : {X : Type 0} → (X → X → Type 0) → List X → Type 0
Pairs R [] = Unit {0}
Pairs R (x ∷ xs) = Each (R x) xs × Pairs R xs

module _ {X : Type 0} where
  pub each_at : (P : X → Type 0) (xs : List X) → Each P xs → All P xs
  each_at P [] h k d lt = absurd (omega arith)
  each_at P (x ∷ xs) h zero d lt = h.0
  each_at P (x ∷ xs) h (suc k) d lt = each_at P xs h.1 k d (omega arith)

  pub each_of : (P : X → Type 0) (xs : List X) → All P xs → Each P xs
  each_of P [] h = tt
  each_of P (x ∷ xs) h = (h zero x (omega arith), each_of P xs (λ k d lt. h (suc k) d (omega arith)))

  pub pairs_at : (R : X → X → Type 0) (xs : List X) → Pairs R xs → AllPairs R xs
  pairs_at R [] h i j d lt short = absurd (omega arith)
  pairs_at R (x ∷ xs) h zero zero d lt short = absurd (omega arith)
  pairs_at R (x ∷ xs) h zero (suc j) d lt short = each_at (R x) xs h.0 j d (omega arith)
  pairs_at R (x ∷ xs) h (suc i) zero d lt short = absurd (omega arith)
  pairs_at R (x ∷ xs) h (suc i) (suc j) d lt short = pairs_at R xs h.1 i j d (omega arith) (omega arith)

  pub each_append : (P : X → Type 0) (xs ys : List X) → Each P xs → Each P ys → Each P (xs ++ ys)
  each_append P [] ys h k = k
  each_append P (x ∷ xs) ys h k = (h.0, each_append P xs ys h.1 k)

  pub pairs_append : (R : X → X → Type 0) (xs ys : List X) → Pairs R xs → Pairs R ys → Each (λ x. Each (R x) ys) xs → Pairs R (xs ++ ys)
  pairs_append R [] ys h k across = k
  pairs_append R (x ∷ xs) ys h k across = (each_append (R x) xs ys h.0 across.0, pairs_append R xs ys h.1 k across.1)

  pub each_filter : (P : X → Type 0) (p : X → Bool) (xs : List X) → Each P xs → Each P (filter p xs)
  each_filter P p [] h = tt
  each_filter P p (x ∷ xs) h = elim (p x) as (λ b. Each P (cond b (x ∷ filter p xs) (filter p xs))) [ true ↦ (h.0, each_filter P p xs h.1) | false ↦ each_filter P p xs h.1 ]

  pub pairs_filter : (R : X → X → Type 0) (p : X → Bool) (xs : List X) → Pairs R xs → Pairs R (filter p xs)
  pairs_filter R p [] h = tt
  pairs_filter R p (x ∷ xs) h =
      elim (p x) as (λ b. Pairs R (cond b (x ∷ filter p xs) (filter p xs))) [ true ↦ (each_filter (R x) p xs h.0, pairs_filter R p xs h.1) | false ↦ pairs_filter R p xs h.1 ]
