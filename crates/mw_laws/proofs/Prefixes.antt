-- Fronts of lists.
use mathlib.Core.List.{IsPrefix}
use Rattle.std.proofs.Common.{◌≡◌, ℕ, ◌≤◌, List, [], ◌++◌, length, take, drop, refl, sym, ap, subst, ◌∙◌, append_assoc, append-nil, arith}
use Rattle.std.proofs.lemmas.List.{length-append, take-append-drop, take-take, take_at}

module _ {A : Type 0} where
  pub prefix_same : (xs : List A) → IsPrefix xs xs
  prefix_same xs = ([], append-nil xs)

  pub prefix_through : (xs ys zs : List A) → IsPrefix xs ys → IsPrefix ys zs → IsPrefix xs zs
  prefix_through xs ys zs h k = (h.0 ++ k.0, sym (append_assoc xs h.0 k.0) ∙ ap (λ front. front ++ k.0) h.1 ∙ k.1)

  pub prefix_length : (xs ys : List A) → IsPrefix xs ys → length xs ≤ length ys
  prefix_length xs ys h = let whole = ap length h.1 in omega (arith, length-append xs h.0)

  pub prefix_take : (n : ℕ) (xs : List A) → IsPrefix (take n xs) xs
  prefix_take n xs = (drop n xs, take-append-drop n xs)

  -- a front is the first elements, as many as it has
  pub prefix_first : (xs ys : List A) → IsPrefix xs ys → take (length xs) ys ≡ xs
  prefix_first xs ys h = ap (take (length xs)) (sym h.1) ∙ take_at xs h.0 (length xs) refl

  -- and a front of the first elements where these are no fewer
  pub prefix_taken : (xs ys : List A) (n : ℕ) → IsPrefix xs ys → length xs ≤ n → IsPrefix xs (take n ys)
  prefix_taken xs ys n h long = subst (λ front. IsPrefix front (take n ys)) (take-take (length xs) n ys long ∙ prefix_first xs ys h) (prefix_take (length xs) (take n ys))
