-- Numbers that are noted in tables.
use Rattle.std.proofs.Common.{◌≡◌, ◌≢◌, ℕ, suc, ◌+◌, ◌-◌, ◌<◌, ◌≤◌, true, false, ◌&&◌, cond, eqb, List, [], ◌∷◌, ◌++◌, length, get_or, set, take, refl, sym, ap, ◌∙◌, inl, inr, arith, get_or-set_same, get_or-set_other}
use Rattle.std.specs.Prelude.{nat_le}
use Rattle.std.specs.List.Sorted.{IsStrictlyIncreasing}
use Rattle.std.proofs.lemmas.Bool.{cases_Bool, cases_eq, cases_lt, eq-eqb, ne_eqb, eqb-true, le-leb, lt-leb}
use Rattle.std.proofs.lemmas.List.{length-set, map_push, take_more}
use Rattle.mw_rules.specs.Names.{is_among}
use Rattle.mw_multi.specs.Placement.{numbers_at}
use Rattle.mw_reach.specs.Reach.{one_if, times_in}
use Rattle.mw_reach.specs.Tables.{IsNoted, shifted, but_at}
use Rattle.mw_reach.proofs.Items.{times_in-append}

-- ---- notes

pub nothing_noted : (table : List (List ℕ)) (number : ℕ) (more : ℕ → ℕ) → ((k : ℕ) → more k ≡ 0) → IsNoted table table number more
nothing_noted table number more none = record {
  size = refl;
  times = λ n k. elim (cases_Bool (eqb number n)) [
    | inl same ↦ rw same (omega (arith, none k))
    | inr other ↦ rw other (omega arith)
  ];
}

-- a number at a key
pub one_noted : (table : List (List ℕ)) (key number : ℕ) → key < length table → IsNoted table (set table key (numbers_at table key ++ number ∷ [])) number (λ k. one_if (eqb key k))
one_noted table key number h = record {
  size = length-set table key (numbers_at table key ++ number ∷ []);
  times = λ n k. elim (cases_eq k key) [
    | inl here ↦
        let at : one_if (eqb key k) ≡ 1 = ap one_if (eq-eqb key k (sym here)) in
        let value : numbers_at (set table key (numbers_at table key ++ number ∷ [])) k ≡ numbers_at table k ++ number ∷ [] =
        rw here (get_or-set_same table key (numbers_at table key ++ number ∷ []) [] h) in
        ap (times_in n) value ∙ times_in-append n (numbers_at table k) (number ∷ []) ∙ elim (cases_Bool (eqb number n)) [
          | inl same ↦ rw (same, at) (omega arith)
          | inr other ↦ rw other (omega arith)
        ]
    | inr away ↦
        let at : one_if (eqb key k) ≡ 0 = ap one_if (ne_eqb key k (λ e. away (sym e))) in
        let value = get_or-set_other table key k (numbers_at table key ++ number ∷ []) [] away in
        ap (times_in n) value ∙ elim (cases_Bool (eqb number n)) [
          | inl same ↦ rw (same, at) (omega arith)
          | inr other ↦ rw other (omega arith)
        ]
  ];
}

-- one note after another
pub both_noted : (first then last : List (List ℕ)) (number : ℕ) (f g h : ℕ → ℕ) → ((k : ℕ) → h k ≡ f k + g k) → IsNoted first then number f → IsNoted then last number g → IsNoted first last number h
both_noted first then last number f g h sum a b = record {
  size = b.size ∙ a.size;
  times = λ n k. b.times n k ∙ ap (λ t. t + cond (eqb number n) (g k) 0) (a.times n k) ∙ elim (cases_Bool (eqb number n)) [
    | inl same ↦ rw same (omega (arith, sum k))
    | inr other ↦ rw other (omega arith)
  ];
}

pub same_note : (old new : List (List ℕ)) (number : ℕ) (f g : ℕ → ℕ) → ((k : ℕ) → g k ≡ f k) → IsNoted old new number f → IsNoted old new number g
same_note old new number f g same a = record {
  size = a.size;
  times = λ n k. a.times n k ∙ ap (λ m. times_in n (numbers_at old k) + cond (eqb number n) m 0) (sym (same k));
}

-- ---- lists of names

-- one element more of a slot's numbers
pub shifted_more : (first : ℕ) (ns : List ℕ) (i d k : ℕ) → i < length ns → times_in k (shifted first (take (i + 1) ns)) ≡ times_in k (shifted first (take i ns)) + one_if (eqb (first + get_or ns i d) k)
shifted_more first ns i d k h =
    ap (λ xs. times_in k (shifted first xs)) (take_more ns i d h)
    ∙ ap (times_in k) (map_push (λ n. first + n) (take i ns) (get_or ns i d))
    ∙ times_in-append k (shifted first (take i ns)) ((first + get_or ns i d) ∷ [])
    ∙ omega arith

-- the same at all keys but one
pub but_more : (place first : ℕ) (ns : List ℕ) (i d k : ℕ) → i < length ns
    → but_at place (λ j. times_in j (shifted first (take (i + 1) ns))) k ≡ but_at place (λ j. times_in j (shifted first (take i ns))) k + but_at place (λ j. one_if (eqb (first + get_or ns i d) j)) k
but_more place first ns i d k h = elim (cases_Bool (eqb place k)) [
  | inl here ↦ rw here (omega arith)
  | inr away ↦ rw away (shifted_more first ns i d k h)
]

-- the key itself is left out
pub but_itself : (place k : ℕ) → but_at place (λ j. one_if (eqb place j)) k ≡ 0
but_itself place k = elim (cases_Bool (eqb place k)) [
  | inl here ↦ rw here refl
  | inr away ↦ rw away refl
]

-- another key isn't
pub but_other : (place key k : ℕ) → key ≢ place → but_at place (λ j. one_if (eqb key j)) k ≡ one_if (eqb key k)
but_other place key k other = elim (cases_Bool (eqb place k)) [
  | inl here ↦
      let apart : eqb key k ≡ false = ne_eqb key k (λ e. other (e ∙ sym (eqb-true place k here))) in
      rw (here, apart) refl
  | inr away ↦ rw away refl
]

-- ---- ascending lists

tail : (x : ℕ) (xs : List ℕ) → IsStrictlyIncreasing (x ∷ xs) → IsStrictlyIncreasing xs
tail x xs h k l = let next : suc k + 1 ≡ suc (k + 1) = omega arith in rw next at (h (suc k) (omega arith))

none_below : (n x : ℕ) (xs : List ℕ) → IsStrictlyIncreasing (x ∷ xs) → n ≤ x → times_in n xs ≡ 0
none_below n x [] h l = refl
none_below n x (y ∷ ys) h l =
    let above : x < y = h 0 (omega arith) in
    let apart : one_if (eqb y n) ≡ 0 = ap one_if (ne_eqb y n (λ e. absurd (omega arith))) in
    omega (arith, none_below n y ys (tail x (y ∷ ys) h) (omega arith))

-- a number stands in an ascending list once at most
times_once : (n : ℕ) (xs : List ℕ) → IsStrictlyIncreasing xs → times_in n xs ≡ one_if (is_among xs n)
times_once n [] h = refl
times_once n (x ∷ xs) h = elim (cases_Bool (eqb x n)) [
  | inl here ↦
      let same : x ≡ n = eqb-true x n here in
      let none : times_in n xs ≡ 0 = none_below n x xs h (omega arith) in
      rw (here, none) refl
  | inr away ↦ rw away (omega (arith, times_once n xs (tail x xs h)))
]

eqb_shift : (first x k : ℕ) → first ≤ k → eqb (first + x) k ≡ eqb x (k - first)
eqb_shift first x k h = elim (cases_eq x (k - first)) [
  | inl same ↦ eq-eqb (first + x) k (omega arith) ∙ sym (eq-eqb x (k - first) same)
  | inr other ↦ ne_eqb (first + x) k (λ e. other (omega arith)) ∙ sym (ne_eqb x (k - first) other)
]

times_shifted : (first k : ℕ) (xs : List ℕ) → times_in k (shifted first xs) ≡ cond (nat_le first k) (times_in (k - first) xs) 0
times_shifted first k [] = elim (cases_Bool (nat_le first k)) [ inl t ↦ rw t refl | inr f ↦ rw f refl ]
times_shifted first k (x ∷ xs) = elim (cases_lt k first) [
  | inl below ↦
      let out : nat_le first k ≡ false = lt-leb first k below in
      let apart : one_if (eqb (first + x) k) ≡ 0 = ap one_if (ne_eqb (first + x) k (λ e. absurd (omega arith))) in
      let rest : times_in k (shifted first xs) ≡ 0 = times_shifted first k xs ∙ rw out refl in
      rw out (omega arith)
  | inr within ↦
      let there : nat_le first k ≡ true = le-leb first k within in
      let rest : times_in k (shifted first xs) ≡ times_in (k - first) xs = times_shifted first k xs ∙ rw there refl in
      let here : one_if (eqb (first + x) k) ≡ one_if (eqb x (k - first)) = ap one_if (eqb_shift first x k within) in
      rw there (omega arith)
]

-- a slot's ascending numbers, over all slots
pub once_shifted : (first k : ℕ) (xs : List ℕ) → IsStrictlyIncreasing xs → times_in k (shifted first xs) ≡ one_if (nat_le first k && is_among xs (k - first))
once_shifted first k xs h = times_shifted first k xs ∙ elim (cases_Bool (nat_le first k)) [
  | inl there ↦ rw there (times_once (k - first) xs h)
  | inr out ↦ rw out refl
]
