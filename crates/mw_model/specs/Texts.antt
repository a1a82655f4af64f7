-- Lists of texts.
use Rattle.std.specs.Prelude.{ℕ, ◌||◌, ◌∷◌, [], List, Bool, false, bytes_eq}

abbrev pub has_text : List (List ℕ) → List ℕ → Bool
has_text [] text = false
has_text (first ∷ others) text = bytes_eq first text || has_text others text
