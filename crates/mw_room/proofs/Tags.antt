-- Lists of tags.
use Rattle.std.proofs.Common.{◌≡◌, ℕ, suc, ◌&&◌, ◌≢◌, List, [], ◌∷◌, false, true, length, refl, ap}
use Rattle.std.specs.Prelude.{bytes_eq}
use Rattle.mw_protocol.specs.Entering.{same_texts}

-- lists of two lengths differ
pub of_other_length : (first second : List (List ℕ)) → length first ≢ length second → false ≡ same_texts first second
of_other_length [] [] h = absurd (h refl)
of_other_length [] (u ∷ us) h = refl
of_other_length (t ∷ ts) [] h = refl
of_other_length (t ∷ ts) (u ∷ us) h =
    elim (bytes_eq t u) as (λ b. false ≡ (b && same_texts ts us)) [
      | true ↦ of_other_length ts us (λ e. h (ap suc e))
      | false ↦ refl
    ]
