-- A name more, in a set and in a list.
use Rattle.std.proofs.Common.{◌≡◌, ℕ, List, [], ◌∷◌, ◌++◌, Bool, true, false, ◌||◌, cond, refl, ap, ◌∙◌}
use Rattle.std.specs.Prelude.{bytes_eq}
use Rattle.mw_model.specs.Texts.{has_text}
use Rattle.mw_multidata.proofs.Bools.{or_false, or_assoc}

pub true_or : (here there : Bool) → cond here true there ≡ (there || here)
true_or true true = refl
true_or true false = refl
true_or false true = refl
true_or false false = refl

pub has_text_push : (before : List (List ℕ)) (name q : List ℕ) → has_text (before ++ name ∷ []) q ≡ (has_text before q || bytes_eq name q)
has_text_push [] name q = or_false (bytes_eq name q)
has_text_push (first ∷ before) name q = ap (λ b. bytes_eq first q || b) (has_text_push before name q) ∙ or_assoc (bytes_eq first q) (has_text before q) (bytes_eq name q)
