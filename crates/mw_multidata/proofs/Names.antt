-- A name among two lists.
use Rattle.std.proofs.Common.{◌≡◌, ℕ, List, [], ◌∷◌, ◌++◌, ◌||◌, refl, ap, ◌∙◌}
use Rattle.std.specs.Prelude.{bytes_eq}
use Rattle.mw_multidata.specs.Names.{has_name}
use Rattle.mw_multidata.proofs.Bools.{or_assoc}

pub has_name_append : (ns ms : List (List ℕ)) (name : List ℕ) → has_name (ns ++ ms) name ≡ (has_name ns name || has_name ms name)
has_name_append [] ms name = refl
has_name_append (n ∷ ns) ms name = ap (λ b. bytes_eq n name || b) (has_name_append ns ms name) ∙ or_assoc (bytes_eq n name) (has_name ns name) (has_name ms name)
