-- Items counted one after another.
use Rattle.std.proofs.Common.{◌≡◌, ℕ, ◌+◌, ◌<◌, ◌≤◌, ◌^◌, eqb, List, [], ◌∷◌, ◌++◌, length, get_or, set, take, drop, refl, sym, ap, ◌∙◌, inl, inr, arith, get_or-set_same, get_or-set_other, take-append-drop}
use Rattle.std.proofs.lemmas.Bool.{cases_eq, eq-eqb, ne_eqb}
use Rattle.std.proofs.lemmas.List.{take_more}
use Rattle.mw_rules.specs.Holds.{bag_of}
use Rattle.mw_reach.specs.Reach.{one_if, times_in}

pub times_in-append : (n : ℕ) (xs ys : List ℕ) → times_in n (xs ++ ys) ≡ times_in n xs + times_in n ys
times_in-append n [] ys = omega arith
times_in-append n (x ∷ xs) ys = omega (arith, times_in-append n xs ys)

pub times_more : (n : ℕ) (xs : List ℕ) (k d : ℕ) → k < length xs → times_in n (take (k + 1) xs) ≡ times_in n (take k xs) + one_if (eqb (get_or xs k d) n)
times_more n xs k d h = ap (times_in n) (take_more xs k d h) ∙ times_in-append n (take k xs) (get_or xs k d ∷ []) ∙ omega arith

pub times_part : (n : ℕ) (xs : List ℕ) (k : ℕ) → times_in n (take k xs) ≤ times_in n xs
times_part n xs k =
    let whole : times_in n xs ≡ times_in n (take k xs) + times_in n (drop k xs) = ap (times_in n) (sym (take-append-drop k xs)) ∙ times_in-append n (take k xs) (drop k xs) in
    omega arith

one_more : (counts : List ℕ) (j i : ℕ) → j < length counts → bag_of (set counts j (bag_of counts j + 1)) i ≡ bag_of counts i + one_if (eqb j i)
one_more counts j i h = elim (cases_eq i j) [
  | inl same ↦
      let here : one_if (eqb j i) ≡ 1 = ap one_if (eq-eqb j i (sym same)) in
      let value : bag_of (set counts j (bag_of counts j + 1)) i ≡ bag_of counts j + 1 = ap (bag_of (set counts j (bag_of counts j + 1))) same ∙ get_or-set_same counts j (bag_of counts j + 1) 0 h in
      let old : bag_of counts i ≡ bag_of counts j = ap (bag_of counts) same in
      omega arith
  | inr other ↦
      let apart : one_if (eqb j i) ≡ 0 = ap one_if (ne_eqb j i (λ e. other (sym e))) in
      let value : bag_of (set counts j (bag_of counts j + 1)) i ≡ bag_of counts i = get_or-set_other counts j i (bag_of counts j + 1) 0 other in
      omega arith
]

module _ (first counts items : List ℕ) (k : ℕ) (h : k < length items) (so_far : (i : ℕ) → bag_of counts i ≡ bag_of first i + times_in i (take k items)) where
  -- there is room for the next item
  pub room_for : ((i : ℕ) → bag_of first i + times_in i items < 2 ^ 32) → bag_of counts (get_or items k 0) + 1 < 2 ^ 32
  room_for room =
      let j = get_or items k 0 in
      let here : one_if (eqb j j) ≡ 1 = ap one_if (eq-eqb j j refl) in
      omega (arith, so_far j, room j, times_more j items k 0 h, times_part j items (k + 1))

  pub counted : get_or items k 0 < length counts → (i : ℕ) → bag_of (set counts (get_or items k 0) (bag_of counts (get_or items k 0) + 1)) i ≡ bag_of first i + times_in i (take (k + 1) items)
  counted within i = omega (arith, one_more counts (get_or items k 0) i within, so_far i, times_more i items k 0 h)
