-- Lists that are made element by element.
use Rattle.std.specs.Prelude.{ℕ, suc, List, [], ◌∷◌, ◌++◌}

-- what a function gives for each element and its number, the first element having this number
abbrev pub each_numbered : {A B : Type 0} → (ℕ → A → List B) → ℕ → List A → List B
each_numbered f number [] = []
each_numbered f number (x ∷ xs) = f number x ++ each_numbered f (suc number) xs
