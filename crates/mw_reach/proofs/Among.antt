-- Numbers in lists, and how often they stand there.
use Rattle.std.proofs.Common.{◌≡◌, ℕ, zero, suc, ◌+◌, ◌-◌, ◌<◌, ◌≤◌, Bool, true, false, eqb, List, [], ◌∷◌, length, get_or, All, refl, sym, ap, ◌∙◌, inl, inr, arith}
use Rattle.std.specs.Prelude.{nat_le}
use Rattle.std.proofs.lemmas.Bool.{false≢true, cases_Bool, cases_lt, or_cases, or_left, or_right, or_parts, and_from, and_right, eqb-true, eq-eqb, le-leb}
use Rattle.std.proofs.lemmas.List.{get_or_past}
use Rattle.std.proofs.lemmas.List.Concat.{flat_map-cons}
use Rattle.std.proofs.lemmas.List.Folds.{list_any-append}
use Rattle.mw_rules.specs.Names.{is_among, names_item, names_place}
use Rattle.mw_multi.specs.Steps.{Step}
use Rattle.mw_reach.specs.Reach.{one_if, times_in}
use Rattle.mw_reach.specs.Bound.{names_place_at, names_item_at, is_at, waits_for_place}
use Rattle.mw_multi.specs.Placement.{numbers_at}
use Rattle.mw_reach.specs.Tables.{no_step, IsWatched, step_at}
use Rattle.mw_reach.specs.Worklist.{numbers_of}

-- what isn't in a list stands there no time
pub not_among_times : (ns : List ℕ) (n : ℕ) → is_among ns n ≡ false → times_in n ns ≡ 0
not_among_times [] n e = refl
not_among_times (m ∷ ns) n e =
    let parts = or_parts (eqb m n) (is_among ns n) e in
    let here : one_if (eqb m n) ≡ 0 = ap one_if parts.0 in
    omega (arith, here, not_among_times ns n parts.1)

pub among_times : (ns : List ℕ) (n : ℕ) → 1 ≤ times_in n ns → is_among ns n ≡ true
among_times ns n h = elim (cases_Bool (is_among ns n)) [
  | inl there ↦ there
  | inr apart ↦ let none = not_among_times ns n apart in absurd (omega (arith, none))
]

pub times_among : (ns : List ℕ) (n : ℕ) → is_among ns n ≡ true → 1 ≤ times_in n ns
times_among [] n e = absurd (false≢true e)
times_among (m ∷ ns) n e = elim (or_cases (eqb m n) (is_among ns n) e) [
  | inl here ↦ let one : one_if (eqb m n) ≡ 1 = ap one_if here in omega arith
  | inr later ↦ omega (arith, times_among ns n later)
]

-- an element of a list is in it
pub among_at : (ns : List ℕ) (i d : ℕ) → i < length ns → is_among ns (get_or ns i d) ≡ true
among_at [] i d h = absurd (omega arith)
among_at (n ∷ ns) zero d h = or_left (eqb n n) (is_among ns n) (eq-eqb n n refl)
among_at (n ∷ ns) (suc i) d h = or_right (eqb n (get_or ns i d)) (is_among ns (get_or ns i d)) (among_at ns i d (omega arith))

-- a step that stands with one of the items is among those of all of them
pub among_numbers_of : (by_item : List (List ℕ)) (items : List ℕ) (i n : ℕ) → is_among items i ≡ true → is_among (numbers_at by_item i) n ≡ true → is_among (numbers_of by_item items) n ≡ true
among_numbers_of by_item [] i n e named = absurd (false≢true e)
among_numbers_of by_item (j ∷ items) i n e named =
    let parts = ap (λ ns. is_among ns n) (flat_map-cons (numbers_at by_item) j items) ∙ list_any-append (λ m. eqb m n) (numbers_at by_item j) (numbers_of by_item items) in
    parts ∙ elim (or_cases (eqb j i) (is_among items i) e) [
      | inl here ↦ let same : j ≡ i = eqb-true j i here in or_left (is_among (numbers_at by_item j) n) (is_among (numbers_of by_item items) n) (rw same named)
      | inr later ↦ or_right (is_among (numbers_at by_item j) n) (is_among (numbers_of by_item items) n) (among_numbers_of by_item items i n later named)
    ]

one_if-true : (b : Bool) → 1 ≤ one_if b → b ≡ true
one_if-true true h = refl
one_if-true false h = absurd (omega arith)

pub one_if-zero : (b : Bool) → one_if b ≡ 0 → b ≡ false
one_if-zero true h = absurd (omega arith)
one_if-zero false h = refl

module _ (steps : List Step) (origins : List ℕ) (by_place by_item : List (List ℕ)) (watched : IsWatched steps origins by_place by_item) where
  -- a step that doesn't stand with a place
  pub away_from_place : (n p : ℕ) → is_among (numbers_at by_place p) n ≡ false → (is_at (step_at steps n).from p ≡ false) × (names_place_at (step_at steps n) p ≡ false)
  away_from_place n p apart =
      let none = one_if-zero (waits_for_place (step_at steps n) p) (sym (watched.places n p) ∙ not_among_times (numbers_at by_place p) n apart) in
      or_parts (is_at (step_at steps n).from p) (names_place_at (step_at steps n) p) none

  -- a step that doesn't stand with an item
  pub away_from_item : (n i : ℕ) → is_among (numbers_at by_item i) n ≡ false → names_item_at (step_at steps n) i ≡ false
  away_from_item n i apart = one_if-zero (names_item_at (step_at steps n) i) (sym (watched.items n i) ∙ not_among_times (numbers_at by_item i) n apart)

  past_end : (n : ℕ) → length steps ≤ n → (p : ℕ) → waits_for_place (step_at steps n) p ≡ false
  past_end n h p = let none : step_at steps n ≡ no_step = get_or_past steps n no_step h in rw none (and_right (nat_le 0 p) false refl)

  past_end_item : (n : ℕ) → length steps ≤ n → (i : ℕ) → names_item_at (step_at steps n) i ≡ false
  past_end_item n h i = let none : step_at steps n ≡ no_step = get_or_past steps n no_step h in rw none (and_right (nat_le 0 i) false refl)

  -- each number in the tables is a step's
  pub among_place : (p n : ℕ) → is_among (numbers_at by_place p) n ≡ true → n < length steps
  among_place p n among = elim (cases_lt n (length steps)) [
    | inl within ↦ within
    | inr past ↦
        let there = times_among (numbers_at by_place p) n among in
        let none : one_if (waits_for_place (step_at steps n) p) ≡ 0 = ap one_if (past_end n past p) in
        absurd (omega (arith, watched.places n p))
  ]

  pub place_numbers : (p : ℕ) → All (λ n. n < length steps) (numbers_at by_place p)
  place_numbers p i d h = among_place p (get_or (numbers_at by_place p) i d) (among_at (numbers_at by_place p) i d h)

  pub item_numbers : (k : ℕ) → All (λ n. n < length steps) (numbers_at by_item k)
  item_numbers k i d h =
      let n = get_or (numbers_at by_item k) i d in
      elim (cases_lt n (length steps)) [
        | inl within ↦ within
        | inr past ↦
            let there = times_among (numbers_at by_item k) n (among_at (numbers_at by_item k) i d h) in
            let none : one_if (names_item_at (step_at steps n) k) ≡ 0 = ap one_if (past_end_item n past k) in
            absurd (omega (arith, watched.items n k))
      ]

-- a rule's own numbers, and those over all slots
pub names_item_shifted : (step : Step) (i : ℕ) → names_item step.rule i ≡ true → names_item_at step (step.first_item + i) ≡ true
names_item_shifted step i e =
    let back : step.first_item + i - step.first_item ≡ i = omega arith in
    and_from _ _ (le-leb step.first_item (step.first_item + i) (omega arith)) (rw back e)

pub names_place_shifted : (step : Step) (p : ℕ) → names_place step.rule p ≡ true → names_place_at step (step.first_place + p) ≡ true
names_place_shifted step p e =
    let back : step.first_place + p - step.first_place ≡ p = omega arith in
    and_from _ _ (le-leb step.first_place (step.first_place + p) (omega arith)) (rw back e)
