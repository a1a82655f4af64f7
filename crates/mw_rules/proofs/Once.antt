-- A sorted list without its repeats.
use Rattle.std.proofs.Common.{◌≡◌, ℕ, true, false, Bool, ◌||◌, eqb, List, [], ◌∷◌, refl, ap, sym, ◌∙◌, ⊎_elim}
use Rattle.std.specs.List.{dedup, dedup_from}
use Rattle.std.proofs.lemmas.Bool.{cases_Bool, eqb-true}
use Rattle.mw_rules.specs.Names.{is_among}

or_twice : (a b : Bool) → (a || b) ≡ (a || (a || b))
or_twice true b = refl
or_twice false b = refl

among-dedup_from : (n k : ℕ) (ms : List ℕ) → is_among (dedup_from eqb k ms) n ≡ (eqb k n || is_among ms n)
among-dedup_from n k [] = refl
among-dedup_from n k (m ∷ ms) =
    ⊎_elim
    (λ same. rw same (among-dedup_from n k ms ∙ or_twice (eqb k n) (is_among ms n)
    ∙ ap (λ j. eqb k n || (eqb j n || is_among ms n)) (sym (eqb-true m k same))))
    (λ apart. rw apart (ap (λ b. eqb k n || b) (among-dedup_from n m ms)))
    (cases_Bool (eqb m k))

-- it has the same numbers
pub among-dedup : (n : ℕ) (ms : List ℕ) → is_among (dedup eqb ms) n ≡ is_among ms n
among-dedup n [] = refl
among-dedup n (m ∷ ms) = among-dedup_from n m ms
