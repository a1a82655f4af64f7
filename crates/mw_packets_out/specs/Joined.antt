-- Texts of packets in a row.
use Rattle.std.specs.Prelude.{ℕ, List, [], ◌∷◌, ◌++◌, Bool, true, false, if◌then◌else◌}

-- a text, after a comma where others stand before it
abbrev pub one_more : Bool → List ℕ → List ℕ
one_more after text = if after then 44 ∷ text else text

abbrev pub joined : Bool → List (List ℕ) → List ℕ
joined after [] = []
joined after (text ∷ texts) = one_more after text ++ joined true texts

-- the list of what these texts are of, as compact JSON
abbrev pub in_brackets : List (List ℕ) → List ℕ
in_brackets texts = 91 ∷ (joined false texts ++ 93 ∷ [])

-- whether some stand before what comes after these
abbrev pub some_after : {A : Type 0} → Bool → List A → Bool
some_after after [] = after
some_after after (x ∷ xs) = true
