-- The asks place by place are no more than those step by step.
use Rattle.std.proofs.Common.{◌≡◌, ℕ, zero, suc, ◌+◌, ◌<◌, ◌≤◌, Bool, true, false, ◌||◌, eqb, List, [], ◌∷◌, Option, Some, None, length, get_or, All, refl, sym, ap, inl, inr, arith}
use Rattle.std.specs.Prelude.{is_some, sum_by}
use Rattle.std.proofs.lemmas.Bool.{cases_eq, eq-eqb, ne_eqb}
use Rattle.std.proofs.lemmas.List.Concat.{length-flat_map}
use Rattle.std.proofs.lemmas.List.Sums.{sum_by-cons}
use Rattle.mw_multi.specs.Joint.{Joint}
use Rattle.mw_multi.specs.Placement.{numbers_at}
use Rattle.mw_multi.specs.Steps.{Step}
use Rattle.mw_reach.specs.Reach.{Placed, one_if, times_in}
use Rattle.mw_reach.specs.Bound.{sum_at, names_place_at, names_item_at, items_named, step_asks, asks_allowed, asks_naming, is_at, waits_for_place, asks_for, asks_at, new_in}
use Rattle.mw_reach.specs.Rows.{steps_in}
use Rattle.mw_reach.specs.Tables.{IsWatched, step_at}
use Rattle.mw_reach.specs.Worklist.{cost_at, paid, numbers_of}
use Rattle.mw_reach.specs.declared.row.Rows.{Rows}
use Rattle.mw_reach.proofs.Among.{place_numbers, item_numbers}

-- ---- sums

-- the sum of what a function gives below a number
abbrev pub sum_below : ℕ → (ℕ → ℕ) → ℕ
sum_below zero f = 0
sum_below (suc n) f = sum_below n f + f n

pub sum_below-add : (n : ℕ) (f g : ℕ → ℕ) → sum_below n (λ k. f k + g k) ≡ sum_below n f + sum_below n g
sum_below-add zero f g = omega arith
sum_below-add (suc n) f g = omega (arith, sum_below-add n f g)

pub sum_below-le : (n : ℕ) (f g : ℕ → ℕ) → ((k : ℕ) → f k ≤ g k) → sum_below n f ≤ sum_below n g
sum_below-le zero f g h = omega arith
sum_below-le (suc n) f g h = omega (arith, sum_below-le n f g h, h n)

pub sum_below-zero : (n : ℕ) → sum_below n (λ k. 0) ≡ 0
sum_below-zero zero = refl
sum_below-zero (suc n) = omega (arith, sum_below-zero n)

pub sum_below-past : (n m : ℕ) → n ≤ m → sum_below n (λ k. one_if (eqb m k)) ≡ 0
sum_below-past zero m h = refl
sum_below-past (suc n) m h =
    let apart : one_if (eqb m n) ≡ 0 = ap one_if (ne_eqb m n (λ e. absurd (omega arith))) in
    omega (arith, sum_below-past n m (omega arith), apart)

pub sum_below-one : (n m : ℕ) → m < n → sum_below n (λ k. one_if (eqb m k)) ≡ 1
sum_below-one zero m h = absurd (omega arith)
sum_below-one (suc n) m h = elim (cases_eq m n) [
  | inl same ↦ let here : one_if (eqb m n) ≡ 1 = ap one_if (eq-eqb m n same) in omega (arith, sum_below-past n m (omega arith), here)
  | inr other ↦ let apart : one_if (eqb m n) ≡ 0 = ap one_if (ne_eqb m n other) in omega (arith, sum_below-one n m (omega arith), apart)
]

pub sum_below-first : (n : ℕ) (f : ℕ → ℕ) → sum_below (suc n) f ≡ f 0 + sum_below n (λ k. f (suc k))
sum_below-first zero f = omega arith
sum_below-first (suc n) f = omega (arith, sum_below-first n f)

-- a sum over a list is one over its indices
sum_by-below : (f : Step → ℕ) (steps : List Step) → sum_by f steps ≡ sum_below (length steps) (λ n. f (step_at steps n))
sum_by-below f [] = refl
sum_by-below f (step ∷ steps) = omega (arith, sum_by-cons f step steps, sum_by-below f steps, sum_below-first (length steps) (λ n. f (step_at (step ∷ steps) n)))

-- a list of numbers is as long as they are in it
length-times : (n : ℕ) (ms : List ℕ) → All (λ m. m < n) ms → length ms ≡ sum_below n (λ k. times_in k ms)
length-times n [] h = sym (sum_below-zero n)
length-times n (m ∷ ms) h =
    let first : m < n = h 0 m (omega arith) in
    omega (arith, sum_below-add n (λ k. one_if (eqb m k)) (λ k. times_in k ms), sum_below-one n m first, length-times n ms (λ k d l. h (suc k) d (omega arith)))

-- sums change places
sum_below-cons : (n : ℕ) (f : ℕ → ℕ → ℕ) (i : ℕ) (is : List ℕ) → sum_below n (λ k. sum_by (λ j. f j k) (i ∷ is)) ≡ sum_below n (λ k. f i k + sum_by (λ j. f j k) is)
sum_below-cons zero f i is = refl
sum_below-cons (suc n) f i is = omega (arith, sum_below-cons n f i is, sum_by-cons (λ j. f j n) i is)

sum_by-sum_below : (n : ℕ) (f : ℕ → ℕ → ℕ) (is : List ℕ) → sum_by (λ i. sum_below n (f i)) is ≡ sum_below n (λ k. sum_by (λ i. f i k) is)
sum_by-sum_below n f [] = sym (sum_below-zero n)
sum_by-sum_below n f (i ∷ is) =
    omega (arith, sum_by-cons (λ j. sum_below n (f j)) i is, sum_by-sum_below n f is, sum_below-add n (f i) (λ k. sum_by (λ j. f j k) is), sum_below-cons n f i is)

sum_by-le : {X : Type 0} (f g : X → ℕ) (is : List X) → ((i : X) → f i ≤ g i) → sum_by f is ≤ sum_by g is
sum_by-le f g [] h = omega arith
sum_by-le f g (i ∷ is) h = omega (arith, sum_by-cons f i is, sum_by-cons g i is, h i, sum_by-le f g is h)

sum_at-le : (f g : ℕ → ℕ) (p : ℕ) (ds : List Bool) → ((q : ℕ) → f q ≤ g q) → sum_at f p ds ≤ sum_at g p ds
sum_at-le f g p [] h = omega arith
sum_at-le f g p (true ∷ ds) h = omega (arith, h p, sum_at-le f g (suc p) ds h)
sum_at-le f g p (false ∷ ds) h = omega (arith, sum_at-le f g (suc p) ds h)

sum_at-add : (f g : ℕ → ℕ) (p : ℕ) (ds : List Bool) → sum_at (λ q. f q + g q) p ds ≡ sum_at f p ds + sum_at g p ds
sum_at-add f g p [] = refl
sum_at-add f g p (true ∷ ds) = omega (arith, sum_at-add f g (suc p) ds)
sum_at-add f g p (false ∷ ds) = omega (arith, sum_at-add f g (suc p) ds)

sum_at-sum_below : (n : ℕ) (f : ℕ → ℕ → ℕ) (p : ℕ) (ds : List Bool) → sum_at (λ q. sum_below n (f q)) p ds ≡ sum_below n (λ k. sum_at (λ q. f q k) p ds)
sum_at-sum_below n f p [] = sym (sum_below-zero n)
sum_at-sum_below n f p (true ∷ ds) = omega (arith, sum_below-add n (f p) (λ k. sum_at (λ q. f q k) (suc p) ds), sum_at-sum_below n f (suc p) ds)
sum_at-sum_below n f p (false ∷ ds) = omega (arith, sum_below-add n (λ k. 0) (λ k. sum_at (λ q. f q k) (suc p) ds), sum_below-zero n, sum_at-sum_below n f (suc p) ds)

-- ---- a step starts at one place at most

starts_before : (r p : ℕ) (ds : List Bool) → r < p → sum_at (λ q. one_if (eqb r q)) p ds ≡ 0
starts_before r p [] h = refl
starts_before r p (true ∷ ds) h =
    let apart : one_if (eqb r p) ≡ 0 = ap one_if (ne_eqb r p (λ e. absurd (omega arith))) in
    omega (arith, apart, starts_before r (suc p) ds (omega arith))
starts_before r p (false ∷ ds) h = omega (arith, starts_before r (suc p) ds (omega arith))

starts_once : (r p : ℕ) (ds : List Bool) → sum_at (λ q. one_if (eqb r q)) p ds ≤ 1
starts_once r p [] = omega arith
starts_once r p (true ∷ ds) = elim (cases_eq r p) [
  | inl same ↦
      let here : one_if (eqb r p) ≡ 1 = ap one_if (eq-eqb r p same) in
      let rest : sum_at (λ q. one_if (eqb r q)) (suc p) ds ≡ 0 = starts_before r (suc p) ds (omega arith) in
      omega arith
  | inr other ↦
      let apart : one_if (eqb r p) ≡ 0 = ap one_if (ne_eqb r p other) in
      omega (arith, apart, starts_once r (suc p) ds)
]
starts_once r p (false ∷ ds) = omega (arith, starts_once r (suc p) ds)

starts_nowhere : (p : ℕ) (ds : List Bool) → sum_at (λ q. one_if (is_at None q)) p ds ≡ 0
starts_nowhere p [] = refl
starts_nowhere p (true ∷ ds) = omega (arith, starts_nowhere (suc p) ds)
starts_nowhere p (false ∷ ds) = omega (arith, starts_nowhere (suc p) ds)

one_start : (from : Option ℕ) (ds : List Bool) → sum_at (λ p. one_if (is_at from p)) 0 ds ≤ one_if (is_some from)
one_start None ds = omega (arith, starts_nowhere 0 ds)
one_start (Some r) ds = starts_once r 0 ds

either-le : (a b : Bool) → one_if (a || b) ≤ one_if a + one_if b
either-le true b = omega arith
either-le false b = omega arith

-- ---- the tables

-- the places of a list are in another one or new in it
sum_at-new : (f : ℕ → ℕ) (p : ℕ) (old new : List Bool) → sum_at f p new ≤ sum_at f p old + sum_at f p (new_in old new)
sum_at-new f p old [] = omega arith
sum_at-new f p [] (true ∷ new) = omega (arith, sum_at-new f (suc p) [] new)
sum_at-new f p [] (false ∷ new) = omega (arith, sum_at-new f (suc p) [] new)
sum_at-new f p (true ∷ old) (true ∷ new) = omega (arith, sum_at-new f (suc p) old new)
sum_at-new f p (true ∷ old) (false ∷ new) = omega (arith, sum_at-new f (suc p) old new)
sum_at-new f p (false ∷ old) (true ∷ new) = omega (arith, sum_at-new f (suc p) old new)
sum_at-new f p (false ∷ old) (false ∷ new) = omega (arith, sum_at-new f (suc p) old new)

-- ---- the asks of one step

step_at_most : (placed : Placed) (w : List Bool) (step : Step) → sum_at (asks_for placed step) 0 w ≤ step_asks placed w step
step_at_most placed w step =
    let starts = λ (p : ℕ). one_if (is_at step.from p) in
    let naming = λ (p : ℕ). one_if (names_place_at step p) + items_named step (get_or placed p []) in
    omega (
      arith,
      sum_at-le (asks_for placed step) (λ p. starts p + naming p) 0 w (λ p. omega (arith, either-le (is_at step.from p) (names_place_at step p))),
      sum_at-add starts naming 0 w,
      one_start step.from w,
    )

at_most_allowed : (steps : List Step) (placed : Placed) (w : List Bool) → asks_at steps placed w ≤ asks_allowed steps placed w
at_most_allowed steps placed w = sum_by-le (λ step. sum_at (asks_for placed step) 0 w) (step_asks placed w) steps (step_at_most placed w)

-- ---- the tables

module _ (steps : List Step) (origins : List ℕ) (by_place by_item : List (List ℕ)) (watched : IsWatched steps origins by_place by_item) (placed : Placed) where
  waiting : ℕ → ℕ → ℕ
  waiting p n = asks_for placed (step_at steps n) p

  of_item : (i : ℕ) → length (numbers_at by_item i) ≤ sum_below (length steps) (λ n. one_if (names_item_at (step_at steps n) i))
  of_item i =
      let k = length steps in
      omega (
        arith,
        length-times k (numbers_at by_item i) (item_numbers steps origins by_place by_item watched i),
        sum_below-le k (λ n. times_in n (numbers_at by_item i)) (λ n. one_if (names_item_at (step_at steps n) i)) (λ n. omega (arith, watched.items n i)),
      )

  of_items : (is : List ℕ) → length (numbers_of by_item is) ≤ sum_below (length steps) (λ n. items_named (step_at steps n) is)
  of_items is =
      let f : ℕ → ℕ → ℕ = λ i n. one_if (names_item_at (step_at steps n) i) in
      omega (
        arith,
        length-flat_map (numbers_at by_item) is,
        sum_by-le (λ i. length (numbers_at by_item i)) (λ i. sum_below (length steps) (f i)) is of_item,
        sum_by-sum_below (length steps) f is,
      )

  of_place : (p : ℕ) → length (numbers_at by_place p) + length (numbers_of by_item (get_or placed p [])) ≤ sum_below (length steps) (waiting p)
  unfolding waiting
  of_place p =
      let k = length steps in
      let waits = λ (n : ℕ). one_if (waits_for_place (step_at steps n) p) in
      let held = λ (n : ℕ). items_named (step_at steps n) (get_or placed p []) in
      omega (
        arith,
        length-times k (numbers_at by_place p) (place_numbers steps origins by_place by_item watched p),
        sum_below-le k (λ n. times_in n (numbers_at by_place p)) waits (λ n. omega (arith, watched.places n p)),
        of_items (get_or placed p []),
        sum_below-add k waits held,
      )

  asked_at_most : (w : List Bool) → sum_at (λ p. length (numbers_at by_place p) + length (numbers_of by_item (get_or placed p []))) 0 w ≤ asks_at steps placed w
  unfolding waiting
  asked_at_most w =
      omega (
        arith,
        sum_at-le (λ p. length (numbers_at by_place p) + length (numbers_of by_item (get_or placed p []))) (λ p. sum_below (length steps) (waiting p)) 0 w of_place,
        sum_at-sum_below (length steps) waiting 0 w,
        sum_by-below (λ step. sum_at (asks_for placed step) 0 w) steps,
      )

-- the steps that stand with these items
pub named_of_rows : (joint : Joint) (rows : Rows) → IsWatched (steps_in joint rows) rows.origins rows.by_place rows.by_item
    → (more : List ℕ) → length (numbers_of rows.by_item more) ≤ asks_naming (steps_in joint rows) more
named_of_rows joint rows watched more =
    omega (arith, of_items (steps_in joint rows) rows.origins rows.by_place rows.by_item watched [] more, sum_by-below (λ step. items_named step more) (steps_in joint rows))

pub asked_of_rows : (joint : Joint) (rows : Rows) → IsWatched (steps_in joint rows) rows.origins rows.by_place rows.by_item
    → (placed : Placed) (done : List Bool) → paid rows placed done ≤ asks_allowed (steps_in joint rows) placed done
asked_of_rows joint rows watched placed done =
    omega (arith, asked_at_most (steps_in joint rows) rows.origins rows.by_place rows.by_item watched placed done, at_most_allowed (steps_in joint rows) placed done)

-- what is paid for a list that goes on
pub asked_more : (joint : Joint) (rows : Rows) → IsWatched (steps_in joint rows) rows.origins rows.by_place rows.by_item
    → (placed : Placed) (old new : List Bool) → paid rows placed new ≤ paid rows placed old + asks_at (steps_in joint rows) placed (new_in old new)
asked_more joint rows watched placed old new =
    omega (
      arith,
      sum_at-new (cost_at rows placed) 0 old new,
      asked_at_most (steps_in joint rows) rows.origins rows.by_place rows.by_item watched placed (new_in old new),
    )
