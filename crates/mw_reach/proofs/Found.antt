-- What is found at the places of a list.
use Rattle.std.proofs.Common.{◌≡◌, ◌≢◌, ℕ, zero, suc, ◌+◌, ◌<◌, ◌≤◌, Bool, true, false, not, cond, eqb, List, [], ◌∷◌, length, get_or, set, refl, sym, ap, ap₂, ◌∙◌, arith, inl, inr, get_or-set_same, get_or-set_other}
use Rattle.std.specs.Prelude.{sum_by}
use Rattle.std.proofs.lemmas.Bool.{false≢true, cases_eq}
use Rattle.std.proofs.lemmas.List.Sums.{sum_by-cons}
use Rattle.mw_rules.specs.Holds.{Places, places_of}
use Rattle.mw_rules.specs.Laws.{IsPartOf}
use Rattle.mw_reach.specs.Reach.{Placed, one_if, times_in, found_from, found}
use Rattle.mw_reach.specs.Counts.{outside}

-- the second list has one place more
pub record Adds (p : ℕ) (v w : Places) : Type 0 where
  pub new : v p ≡ false
  pub added : w p ≡ true
  pub others : (q : ℕ) → q ≢ p → v q ≡ w q

pub Adds-set : (places : List Bool) (p : ℕ) → p < length places → places_of places p ≡ false → Adds p (places_of places) (places_of (set places p true))
Adds-set places p h e = record {
  new = e;
  added = get_or-set_same places p true false h;
  others = λ q n. sym (get_or-set_other places p q true false n);
}

-- the places outside are one less
pub Adds-outside : (places : List Bool) (p : ℕ) → p < length places → places_of places p ≡ false → Adds p (outside (set places p true)) (outside places)
Adds-outside places p h e = record {
  new = ap not (get_or-set_same places p true false h);
  added = ap not e;
  others = λ q n. ap not (get_or-set_other places p q true false n);
}

pub IsPartOf-Adds : {p : ℕ} {v w : Places} → Adds p v w → (u : Places) → IsPartOf v u → u p ≡ true → IsPartOf w u
IsPartOf-Adds {p} {v} {w} a u h e q k = elim (cases_eq q p) [
  | inl s ↦ ap u s ∙ e
  | inr n ↦ h q (a.others q n ∙ k)
]

counted_more : (x y : Bool) (n : ℕ) → (x ≡ true → y ≡ true) → cond x n 0 ≤ cond y n 0
counted_more true true n h = omega arith
counted_more true false n h = absurd (false≢true (h refl))
counted_more false true n h = omega arith
counted_more false false n h = omega arith

pub found_more : (k : ℕ) (iss : Placed) (v w : Places) (i : ℕ) → IsPartOf v w → found_from k iss v i ≤ found_from k iss w i
found_more k [] v w i h = omega arith
found_more k (is ∷ iss) v w i h = omega (arith, counted_more (v k) (w k) (times_in i is) (h k), found_more (suc k) iss v w i h)

-- lists that agree from a place on
found_same : (k : ℕ) (iss : Placed) (v w : Places) (i : ℕ) → ((q : ℕ) → k ≤ q → v q ≡ w q) → found_from k iss v i ≡ found_from k iss w i
found_same k [] v w i h = refl
found_same k (is ∷ iss) v w i h = ap₂ ◌+◌ (ap (λ b. cond b (times_in i is) 0) (h k (omega arith))) (found_same (suc k) iss v w i (λ q l. h q (omega arith)))

found_from-Adds : (k n p : ℕ) (iss : Placed) (v w : Places) (i : ℕ) → p ≡ k + n → Adds p v w → found_from k iss w i ≡ found_from k iss v i + times_in i (get_or iss n [])
found_from-Adds k n p [] v w i e a = refl
found_from-Adds k zero p (is ∷ iss) v w i e a =
    let here : p ≡ k = omega arith in
    let new : v k ≡ false = ap v (sym here) ∙ a.new in
    let added : w k ≡ true = ap w (sym here) ∙ a.added in
    let rest = found_same (suc k) iss v w i (λ q l. a.others q (omega arith)) in
    rw (new, added, rest) (omega arith)
found_from-Adds k (suc n) p (is ∷ iss) v w i e a =
    let other : v k ≡ w k = a.others k (omega arith) in
    let rest = found_from-Adds (suc k) n p iss v w i (omega arith) a in
    rw (other, rest) (omega arith)

pub found-Adds : (p : ℕ) (placed : Placed) (v w : Places) (i : ℕ) → Adds p v w → found placed w i ≡ found placed v i + times_in i (get_or placed p [])
found-Adds p placed v w i a = found_from-Adds 0 p p placed v w i (omega arith) a

-- the items at a place outside are still to be found
pub found_outside : (places : List Bool) (p : ℕ) (placed : Placed) (i : ℕ) → p < length places → places_of places p ≡ false → times_in i (get_or placed p []) ≤ found placed (outside places) i
found_outside places p placed i h e = omega (arith, found-Adds p placed (outside (set places p true)) (outside places) i (Adds-outside places p h e))

pub found_none : (k : ℕ) (iss : Placed) (w : Places) (i : ℕ) → ((p : ℕ) → w p ≡ false) → found_from k iss w i ≡ 0
found_none k [] w i h = refl
found_none k (is ∷ iss) w i h = rw (h k, found_none (suc k) iss w i h) (omega arith)

one_if-le : (b : Bool) → one_if b ≤ 1
one_if-le true = omega arith
one_if-le false = omega arith

pub times_in-le : (i : ℕ) (is : List ℕ) → times_in i is ≤ length is
times_in-le i [] = omega arith
times_in-le i (j ∷ is) = omega (arith, one_if-le (eqb j i), times_in-le i is)

cond-le : (b : Bool) (n : ℕ) → cond b n 0 ≤ n
cond-le true n = omega arith
cond-le false n = omega arith

pub found-le : (k : ℕ) (iss : Placed) (w : Places) (i : ℕ) → found_from k iss w i ≤ sum_by length iss
found-le k [] w i = omega arith
found-le k (is ∷ iss) w i = omega (arith, sum_by-cons length is iss, cond-le (w k) (times_in i is), times_in-le i is, found-le (suc k) iss w i)
