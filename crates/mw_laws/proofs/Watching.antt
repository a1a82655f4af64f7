-- The keys that a SetNotify adds.
use Rattle.std.proofs.Common.{◌≡◌, ℕ, ◌||◌, List, true, false, cond, ◌∷◌, [], ◌++◌, bytes_eq, refl, ◌∙◌}
use Rattle.std.proofs.lemmas.Bool.{cond_both, or_left}
use Rattle.mw_model.specs.Texts.{has_text}
use Rattle.mw_protocol.specs.Storing.{is_passed_over, watched}

pub has_append : (xs ys : List (List ℕ)) (key : List ℕ) → has_text (xs ++ ys) key ≡ (has_text xs key || has_text ys key)
has_append [] ys key = refl
has_append (x ∷ xs) ys key = elim (bytes_eq x key) as (λ b. (b || has_text (xs ++ ys) key) ≡ ((b || has_text xs key) || has_text ys key)) [ true ↦ refl | false ↦ has_append xs ys key ]

-- the watched keys after one more
abbrev pub one_more : List (List ℕ) → List ℕ → List (List ℕ)
one_more keys k = cond (is_passed_over keys k) keys (keys ++ k ∷ [])

one_keeps : (keys : List (List ℕ)) (k key : List ℕ) → has_text keys key ≡ true → has_text (one_more keys k) key ≡ true
one_keeps keys k key has =
    cond_both (is_passed_over keys k) keys (keys ++ k ∷ []) (λ ks. has_text ks key ≡ true) (λ _. has) (λ _. has_append keys (k ∷ []) key ∙ or_left (has_text keys key) (has_text (k ∷ []) key) has)

pub watched_keeps : (keys more : List (List ℕ)) (key : List ℕ) → has_text keys key ≡ true → has_text (watched keys more) key ≡ true
watched_keeps keys [] key has = has
watched_keeps keys (k ∷ ks) key has = watched_keeps (one_more keys k) ks key (one_keeps keys k key has)
