-- A slot among the members of a group, which ascend.
use Rattle.std.proofs.Common.{◌≡◌, ◌==◌, ◌||◌, ℕ, zero, suc, List, [], ◌∷◌, Bool, true, false, Less, nat_cmp, ltb, length, get_or, ◌<◌, ◌≤◌, refl, ap, ◌∙◌, arith}
use Rattle.std.specs.List.{AllWithin}
use Rattle.std.specs.List.Sorted.{IsNonDecreasingBy}
use Rattle.mw_model.specs.Seed.{has_number}
use Rattle.mw_model.specs.Ascending.{Ascend, ComesBefore}
use Rattle.mw_multidata.proofs.Bools.{or_false, both_false}

-- ---- they rise

first_lowest : (m : ℕ) (ms : List ℕ) → ComesBefore nat_cmp m ms → (k d : ℕ) → k < length ms → m ≤ get_or ms k d
first_lowest m [] c k d l = absurd (omega (arith, l))
first_lowest m (x ∷ ms) c zero d l = grind (arith, c.0)
first_lowest m (x ∷ ms) c (suc k) d l = first_lowest m ms c.1 k d (omega (arith, l))

pub members_rise : (ms : List ℕ) → Ascend nat_cmp ms → IsNonDecreasingBy (λ m. m) ms
members_rise [] asc i j d low within = absurd (omega (arith, within))
members_rise (m ∷ ms) asc zero zero d low within = omega arith
members_rise (m ∷ ms) asc zero (suc j) d low within = first_lowest m ms asc.0 j d (omega (arith, within))
members_rise (m ∷ ms) asc (suc i) zero d low within = absurd (omega (arith, low))
members_rise (m ∷ ms) asc (suc i) (suc j) d low within = members_rise ms asc.1 i j d (omega (arith, low)) (omega (arith, within))

-- ---- where the slot would stand

lower_other : (m n : ℕ) → ltb m n ≡ true → (m == n) ≡ false
lower_other m n e = grind (arith, e)

later_other : (m x n : ℕ) → nat_cmp m x ≡ Less → ltb m n ≡ false → (x == n) ≡ false
later_other m x n e f = grind (arith, e, f)

none_later : (m n : ℕ) (ms : List ℕ) → ComesBefore nat_cmp m ms → ltb m n ≡ false → has_number ms n ≡ false
none_later m n [] c f = refl
none_later m n (x ∷ ms) c f = both_false (x == n) (has_number ms n) (later_other m x n c.0 f) (none_later m n ms c.1 f)

pub past_all : (n : ℕ) (ms : List ℕ) (k : ℕ) → AllWithin (λ m. ltb m n ≡ true) ms 0 k → length ms ≤ k → has_number ms n ≡ false
past_all n [] k low all = refl
past_all n (m ∷ ms) zero low all = absurd (omega (arith, all))
past_all n (m ∷ ms) (suc k) low all =
    both_false (m == n) (has_number ms n) (lower_other m n (low 0 m (omega arith) (omega arith))) (past_all n ms k (λ i d l h. low (suc i) d (omega arith) (omega (arith, h))) (omega (arith, all)))

pub at_its_place : (n : ℕ) (ms : List ℕ) (k d : ℕ) → Ascend nat_cmp ms → AllWithin (λ m. ltb m n ≡ true) ms 0 k → AllWithin (λ m. ltb m n ≡ false) ms k (length ms)
    → k < length ms → has_number ms n ≡ (get_or ms k d == n)
at_its_place n [] k d asc low high there = absurd (omega (arith, there))
at_its_place n (m ∷ ms) zero d asc low high there =
    let others : has_number ms n ≡ false = none_later m n ms asc.0 (high 0 m (omega arith) (omega arith)) in
    ap (λ b. (m == n) || b) others ∙ or_false (m == n)
at_its_place n (m ∷ ms) (suc k) d asc low high there =
    let other : (m == n) ≡ false = lower_other m n (low 0 m (omega arith) (omega arith)) in
    ap (λ b. b || has_number ms n) other ∙ at_its_place n ms k d asc.1 (λ i e l h. low (suc i) e (omega arith) (omega (arith, h))) (λ i e l h. high (suc i) e (omega (arith, l)) (omega (arith, h))) (omega (arith, there))
