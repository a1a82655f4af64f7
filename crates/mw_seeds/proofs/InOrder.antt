-- Entries of which no two are of one location have an ascending order.
use Rattle.std.proofs.Common.{◌≡◌, List, [], ◌∷◌, true, false, Ordering, Less, Equal, Greater, IsPermutation, refl, ap, ◌∙◌}
use Rattle.std.specs.List.{IsDistinct, AllByRecursion}
use Rattle.std.specs.Ordering.{ordering_reverse}
use Rattle.std.proofs.lemmas.List.Elements.{All-from_recursion, recursion_from_All}
use Rattle.std.proofs.lemmas.List.Sorted.{All-permutation, IsPermutation-refl, IsPermutation-trans, IsPermutation-cons, IsPermutation-middle}
use Rattle.mw_model.specs.Seed.{Held}
use Rattle.mw_model.specs.Ascending.{Ascend, ComesBefore}
use Rattle.mw_multidata.specs.SeedKept.{held_cmp}
use Rattle.mw_multidata.proofs.NamesKept.{held_total}
use Rattle.mw_seeds.proofs.Apart.{below}
use Rattle.mw_seeds.proofs.Sorting.{same_held, held_same}

-- an entry put before the first one that comes after it
abbrev by_order : Ordering → Held → Held → List Held → List Held → List Held
by_order Less h x xs later = h ∷ x ∷ xs
by_order Equal h x xs later = h ∷ x ∷ xs
by_order Greater h x xs later = x ∷ later

abbrev put_in : Held → List Held → List Held
put_in h [] = h ∷ []
put_in h (x ∷ xs) = by_order (held_cmp h x) h x xs (put_in h xs)

same_elements : (h : Held) (xs : List Held) → IsPermutation (h ∷ xs) (put_in h xs)
same_elements h [] = IsPermutation-refl (h ∷ [])
same_elements h (x ∷ xs) =
    let both : IsPermutation (h ∷ x ∷ xs) (h ∷ x ∷ xs) = IsPermutation-refl (h ∷ x ∷ xs) in
    let past : IsPermutation (h ∷ x ∷ xs) (x ∷ put_in h xs) =
    IsPermutation-trans (h ∷ x ∷ xs) (x ∷ h ∷ xs) (x ∷ put_in h xs) (IsPermutation-middle (h ∷ []) x xs) (IsPermutation-cons x (h ∷ xs) (put_in h xs) (same_elements h xs)) in
    elim (held_cmp h x) as (λ o. IsPermutation (h ∷ x ∷ xs) (by_order o h x xs (put_in h xs))) [ Less ↦ both | Equal ↦ both | Greater ↦ past ]

before : (k h : Held) (xs : List Held) → held_cmp k h ≡ Less → ComesBefore held_cmp k xs → ComesBefore held_cmp k (put_in h xs)
before k h [] l c = (l, tt)
before k h (x ∷ xs) l c =
    elim (held_cmp h x) as (λ o. ComesBefore held_cmp k (by_order o h x xs (put_in h xs))) [ Less ↦ (l, c) | Equal ↦ (l, c) | Greater ↦ (c.0, before k h xs l c.1) ]

by_case : (h x : Held) (xs : List Held) (o : Ordering) → held_cmp h x ≡ o → same_held h x ≡ false → Ascend held_cmp (x ∷ xs) → Ascend held_cmp (put_in h xs) → Ascend held_cmp (by_order o h x xs (put_in h xs))
by_case h x xs Less e d a later = ((e, below h x xs e a.0), a)
by_case h x xs Equal e d a later = let tied : same_held h x ≡ true = held_same h x e in cc
by_case h x xs Greater e d a later = (before x h xs (held_total.antisymm x h ∙ ap ordering_reverse e) a.0, later)

rises : (h : Held) (xs : List Held) → AllByRecursion (λ y. same_held h y ≡ false) xs → Ascend held_cmp xs → Ascend held_cmp (put_in h xs)
rises h [] d a = (tt, tt)
rises h (x ∷ xs) d a = by_case h x xs (held_cmp h x) refl d.0 a (rises h xs d.1 a.1)

-- they have one
pub in_order : (xs : List Held) → IsDistinct same_held xs → (ys : List Held) × IsPermutation xs ys × Ascend held_cmp ys
unfolding IsDistinct
in_order [] d = ([], IsPermutation-refl [], tt)
in_order (x ∷ xs) d =
    let rest = in_order xs d.1 in
    let Other : Held → Type 0 = λ y. same_held x y ≡ false in
    let apart : AllByRecursion Other rest.0 = recursion_from_All Other rest.0 (All-permutation Other xs rest.0 rest.1 (All-from_recursion Other xs d.0)) in
    (put_in x rest.0, IsPermutation-trans (x ∷ xs) (x ∷ rest.0) (put_in x rest.0) (IsPermutation-cons x xs rest.0 rest.1) (same_elements x rest.0), rises x rest.0 apart rest.2)
