-- The locations of a slot stand together.
use Rattle.std.proofs.Common.{◌≡◌, ℕ, zero, suc, List, [], ◌∷◌, Bool, true, false, ltb, leb, ◌==◌, length, get_or, take, drop, Less, ◌<◌, ◌≤◌, ◌+◌, ◌-◌, refl, sym, ap, ◌∙◌, subst, arith, cond}
use Rattle.std.specs.List.{filter, AllWithin}
use Rattle.std.specs.List.Sorted.{IsNonDecreasingBy, IsPartitionPoint}
use Rattle.std.proofs.lemmas.List.{length-drop, get_or-drop}
use Rattle.mw_model.specs.Seed.{Held}
use Rattle.mw_model.specs.Ascending.{Ascend, ComesBefore}
use Rattle.mw_multidata.specs.OfSlot.{held_of}
use Rattle.mw_multidata.specs.SeedKept.{held_cmp}

-- ---- they ascend by slot

no_higher : (a b : Held) → held_cmp a b ≡ Less → a.slot ≤ b.slot
no_higher a b e = grind (arith, e)

first_lowest : (h : Held) (hs : List Held) → ComesBefore held_cmp h hs → (k : ℕ) (d : Held) → k < length hs → h.slot ≤ (get_or hs k d).slot
first_lowest h [] c k d l = absurd (omega (arith, l))
first_lowest h (x ∷ hs) c zero d l = no_higher h x c.0
first_lowest h (x ∷ hs) c (suc k) d l = first_lowest h hs c.1 k d (omega (arith, l))

pub slots_rise : (hs : List Held) → Ascend held_cmp hs → IsNonDecreasingBy (λ h. h.slot) hs
slots_rise [] asc i j d low within = absurd (omega (arith, within))
slots_rise (h ∷ hs) asc zero zero d low within = omega arith
slots_rise (h ∷ hs) asc zero (suc j) d low within = first_lowest h hs asc.0 j d (omega (arith, within))
slots_rise (h ∷ hs) asc (suc i) zero d low within = absurd (omega (arith, low))
slots_rise (h ∷ hs) asc (suc i) (suc j) d low within = slots_rise hs asc.1 i j d (omega (arith, low)) (omega (arith, within))

-- ---- what stands before them, and after

module _ {A : Type 0} (p : A → Bool) where
  kept_first : (x : A) (xs : List A) → p x ≡ true → filter p (x ∷ xs) ≡ x ∷ filter p xs
  kept_first x xs e = ap (λ (b : Bool). cond b (x ∷ filter p xs) (filter p xs)) e

  left_first : (x : A) (xs : List A) → p x ≡ false → filter p (x ∷ xs) ≡ filter p xs
  left_first x xs e = ap (λ (b : Bool). cond b (x ∷ filter p xs) (filter p xs)) e

  none_before : (xs : List A) (k : ℕ) → AllWithin (λ x. p x ≡ false) xs 0 k → filter p xs ≡ filter p (drop k xs)
  none_before xs zero others = refl
  none_before [] (suc k) others = refl
  none_before (x ∷ xs) (suc k) others = left_first x xs (others 0 x (omega arith) (omega arith)) ∙ none_before xs k (λ i d l h. others (suc i) d (omega arith) (omega (arith, h)))

  none_at_all : (xs : List A) → AllWithin (λ x. p x ≡ false) xs 0 (length xs) → filter p xs ≡ []
  none_at_all [] others = refl
  none_at_all (x ∷ xs) others = left_first x xs (others 0 x (omega arith) (omega arith)) ∙ none_at_all xs (λ i d l h. others (suc i) d (omega arith) (omega (arith, h)))

  none_after : (xs : List A) (k : ℕ) → AllWithin (λ x. p x ≡ true) xs 0 k → AllWithin (λ x. p x ≡ false) xs k (length xs) → filter p xs ≡ take k xs
  none_after xs zero own others = none_at_all xs others
  none_after [] (suc k) own others = refl
  none_after (x ∷ xs) (suc k) own others =
      kept_first x xs (own 0 x (omega arith) (omega arith))
      ∙ ap (λ ys. x ∷ ys) (none_after xs k (λ i d l h. own (suc i) d (omega arith) (omega (arith, h))) (λ i d l h. others (suc i) d (omega (arith, l)) (omega (arith, h))))

-- ---- where they begin and end

below_other : (a b : ℕ) → ltb a b ≡ true → (a == b) ≡ false
below_other a b e = grind (arith, e)

above_other : (a b : ℕ) → leb a b ≡ false → (a == b) ≡ false
above_other a b e = grind (arith, e)

between_same : (a b : ℕ) → ltb a b ≡ false → leb a b ≡ true → (a == b) ≡ true
between_same a b e f = grind (arith, e, f)

-- from the first that isn't lower, up to the first that is higher
pub run_is : (slot : ℕ) (hs rest : List Held) (from many : ℕ) → rest ≡ drop from hs → many ≤ length rest
    → IsPartitionPoint (λ h. ltb h.slot slot ≡ true) (λ h. ltb h.slot slot ≡ false) hs from
    → IsPartitionPoint (λ h. leb h.slot slot ≡ true) (λ h. leb h.slot slot ≡ false) rest many → take many rest ≡ held_of slot hs
run_is slot hs rest from many is some first last =
    let own : Held → Bool = λ h. h.slot == slot in
    let size : length rest ≡ length hs - from = ap length is ∙ length-drop from hs in
    let all : AllWithin (λ h. own h ≡ true) rest 0 many = λ k d l h.
    let same : get_or rest k d ≡ get_or hs (from + k) d = ap (λ xs. get_or xs k d) is ∙ get_or-drop from hs k d in
    let low = first.1 (from + k) d (omega arith) (omega (arith, size, some, h)) in
    between_same (get_or rest k d).slot slot (subst (λ (x : Held). ltb x.slot slot ≡ false) (sym same) low) (last.0 k d l h) in
    let front = none_before own hs from (λ k d l h. below_other (get_or hs k d).slot slot (first.0 k d l h)) in
    let back = none_after own rest many all (λ k d l h. above_other (get_or rest k d).slot slot (last.1 k d l h)) in
    sym (front ∙ ap (filter own) (sym is) ∙ back)
