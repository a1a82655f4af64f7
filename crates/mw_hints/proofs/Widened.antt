-- A wider map takes a map's entries.
use Rattle.std.proofs.Common.{◌≡◌, Bool, false, List, [], ◌∷◌, ◌++◌, refl, ap, sym, ◌∙◌, append_assoc, append-nil, subst}
use Rattle.std.specs.Cmp.{IsEquivalence}
use Rattle.std.specs.List.{IsDistinct, AllByRecursion}
use Rattle.std.specs.Map.{keys_of}
use Rattle.indexmap.specs.IndexMap.{insert_entry, insert_all}

module _ {K V : Type 0} (eq : K → K → Bool) (laws : IsEquivalence eq) where
  at_end : (P : K → Type 0) (done : List (K × V)) (e : K × V) (es : List (K × V)) → AllByRecursion P (keys_of (done ++ e ∷ es)) → P e.0
  at_end P [] e es h = h.0
  at_end P (d ∷ done) e es h = at_end P done e es h.1

  goes_last : (done : List (K × V)) (e : K × V) (es : List (K × V)) → IsDistinct eq (keys_of (done ++ e ∷ es)) → insert_entry eq done e.0 e.1 ≡ done ++ e ∷ []
  unfolding IsDistinct
  goes_last [] e es h = refl
  goes_last (d ∷ done) e es h =
      rw (laws.symm e.0 d.0 ∙ at_end (λ y. eq d.0 y ≡ false) done e es h.0) (ap (λ l. d ∷ l) (goes_last done e es h.1))

  pub all_in_turn : (done es : List (K × V)) → IsDistinct eq (keys_of (done ++ es)) → insert_all eq done es ≡ done ++ es
  all_in_turn done [] h = sym (append-nil done)
  all_in_turn done (e ∷ es) h =
      ap (λ l. insert_all eq l es) (goes_last done e es h)
      ∙ all_in_turn (done ++ e ∷ []) es (subst (λ l. IsDistinct eq (keys_of l)) (sym (append_assoc done (e ∷ []) es)) h)
      ∙ append_assoc done (e ∷ []) es
