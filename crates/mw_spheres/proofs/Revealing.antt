-- What is shown of a placement, place by place.
use Rattle.std.proofs.Common.{◌≡◌, ℕ, zero, suc, ◌+◌, ◌<◌, ◌≤◌, Bool, true, false, ◌&&◌, ◌||◌, not, cond, eqb, List, [], ◌∷◌, ◌++◌, length, get_or, set, take, replicate, All, refl, sym, ap, ◌∙◌, inl, inr, arith, zero-add, get_or-set_same, get_or-set_other}
use Rattle.std.specs.Prelude.{if◌then◌else◌, sum_by}
use Rattle.std.proofs.lemmas.Bool.{cases_eq, eq-eqb, ne_eqb}
use Rattle.std.proofs.lemmas.List.{take_more}
use Rattle.std.proofs.lemmas.List.Elements.{All-append, All-nil}
use Rattle.std.proofs.lemmas.List.Folds.{list_any-append}
use Rattle.std.proofs.lemmas.List.Sums.{sum_by-cons}
use Rattle.mw_rules.specs.Holds.{Bag, Places, places_of}
use Rattle.mw_rules.specs.Names.{is_among}
use Rattle.mw_multi.specs.Joint.{Joint, place_total}
use Rattle.mw_multi.specs.Placement.{numbers_at, IsPlaced}
use Rattle.mw_reach.specs.Reach.{Placed, times_in, found}
use Rattle.mw_reach.specs.GoingOn.{HasMore}
use Rattle.mw_reach.proofs.Items.{times_in-append}
use Rattle.mw_reach.proofs.Putting.{found_set}
use Rattle.mw_reach.proofs.Walks.{replicate-false}
use Rattle.mw_spheres.specs.Playthrough.{only}
use Rattle.mw_spheres.specs.Thinning.{HasFewer, IsPutIn, AreShown}
use Rattle.mw_spheres.proofs.Only.{only-at, only-length, only-from}

-- ---- places among others

pub among-append : (xs ys : List ℕ) (p : ℕ) → is_among (xs ++ ys) p ≡ (is_among xs p || is_among ys p)
among-append xs ys p = list_any-append (λ m. eqb m p) xs ys

or_nothing : (b : Bool) → (b || false) ≡ b
or_nothing true = refl
or_nothing false = refl

pub among_more : (places : List ℕ) (k p d : ℕ) → k < length places → is_among (take (k + 1) places) p ≡ (is_among (take k places) p || eqb (get_or places k d) p)
among_more places k p d h =
    ap (λ ps. is_among ps p) (take_more places k d h) ∙ among-append (take k places) (get_or places k d ∷ []) p ∙ ap (λ b. is_among (take k places) p || b) (or_nothing (eqb (get_or places k d) p))

-- ---- flags

flag_copied : (a e now old : Bool) → (if (a || e) then now else old) ≡ (if e then now else (if a then now else old))
flag_copied true true now old = refl
flag_copied true false now old = refl
flag_copied false true now old = refl
flag_copied false false now old = refl

-- one flag more is copied
pub copied_more : (places : List ℕ) (k : ℕ) (kept shown first : List Bool) → k < length places → get_or places k 0 < length shown
    → ((p : ℕ) → places_of shown p ≡ (if is_among (take k places) p then places_of kept p else places_of first p))
    → (p : ℕ) → places_of (set shown (get_or places k 0) (places_of kept (get_or places k 0))) p ≡ (if is_among (take (k + 1) places) p then places_of kept p else places_of first p)
copied_more places k kept shown first h within before p =
    let q = get_or places k 0 in
    let more = ap (λ b. if b then places_of kept p else places_of first p) (among_more places k p 0 h) ∙ flag_copied (is_among (take k places) p) (eqb q p) (places_of kept p) (places_of first p) in
    elim (cases_eq p q) [
      | inl here ↦
          let e : eqb q p ≡ true = eq-eqb q p (sym here) in
          ap (places_of (set shown q (places_of kept q))) here ∙ get_or-set_same shown q (places_of kept q) false within ∙ ap (places_of kept) (sym here)
          ∙ sym (more ∙ ap (λ b. if b then places_of kept p else (if is_among (take k places) p then places_of kept p else places_of first p)) e)
      | inr other ↦
          let e : eqb q p ≡ false = ne_eqb q p (λ s. other (sym s)) in
          get_or-set_other shown q p (places_of kept q) false other ∙ before p
          ∙ sym (more ∙ ap (λ b. if b then places_of kept p else (if is_among (take k places) p then places_of kept p else places_of first p)) e)
    ]

and_none : (b : Bool) → (b && false) ≡ false
and_none true = refl
and_none false = refl

and_all : (b : Bool) → (b && true) ≡ b
and_all true = refl
and_all false = refl

not_either : (x a e : Bool) → (x && not (a || e)) ≡ ((x && not a) && not e)
not_either true true e = refl
not_either true false e = refl
not_either false a e = refl

-- one flag more is cleared
pub cleared_more : (places : List ℕ) (k : ℕ) (shown first : List Bool) → k < length places → get_or places k 0 < length shown
    → ((p : ℕ) → places_of shown p ≡ (places_of first p && not (is_among (take k places) p)))
    → (p : ℕ) → places_of (set shown (get_or places k 0) false) p ≡ (places_of first p && not (is_among (take (k + 1) places) p))
cleared_more places k shown first h within before p =
    let q = get_or places k 0 in
    let more = ap (λ b. places_of first p && not b) (among_more places k p 0 h) ∙ not_either (places_of first p) (is_among (take k places) p) (eqb q p) in
    elim (cases_eq p q) [
      | inl here ↦
          let e : eqb q p ≡ true = eq-eqb q p (sym here) in
          ap (places_of (set shown q false)) here ∙ get_or-set_same shown q false false within
          ∙ sym (more ∙ ap (λ b. (places_of first p && not (is_among (take k places) p)) && not b) e ∙ and_none (places_of first p && not (is_among (take k places) p)))
      | inr other ↦
          let e : eqb q p ≡ false = ne_eqb q p (λ s. other (sym s)) in
          get_or-set_other shown q p false false other ∙ before p
          ∙ sym (more ∙ ap (λ b. (places_of first p && not (is_among (take k places) p)) && not b) e ∙ and_all (places_of first p && not (is_among (take k places) p)))
    ]

shown_bit : (k a o s : Bool) → s ≡ (k && not (a || o)) → ((if a then k else s) && not o) ≡ (k && not o)
shown_bit k true o s e = refl
shown_bit k false true s e = and_none s ∙ sym (and_none k)
shown_bit k false false s e = ap (λ b. b && true) (e ∙ and_all k)

-- what is kept is shown but at these places
pub shown_after : (kept first middle last : List Bool) (add out : List ℕ) → ((p : ℕ) → places_of first p ≡ (places_of kept p && not (is_among add p || is_among out p)))
    → ((p : ℕ) → places_of middle p ≡ (if is_among add p then places_of kept p else places_of first p)) → ((p : ℕ) → places_of last p ≡ (places_of middle p && not (is_among out p)))
    → AreShown kept last out
shown_after kept first middle last add out f m l p =
    l p ∙ ap (λ b. b && not (is_among out p)) (m p) ∙ shown_bit (places_of kept p) (is_among add p) (is_among out p) (places_of first p) (f p)

-- ---- the table

entry_bit : (k a o s l : Bool) (xs ys : List ℕ) → s ≡ (k && not (a || o)) → l ≡ (k && not o) → ys ≡ (if s then xs else []) → (if (a && l) then xs else ys) ≡ (if l then xs else [])
entry_bit k true o s true xs ys e f h = refl
entry_bit k true o s false xs ys e f h =
    let off : s ≡ false = e ∙ and_none k in
    h ∙ ap (λ b. if b then xs else []) off
entry_bit k false o s l xs ys e f h = h ∙ ap (λ b. if b then xs else []) (e ∙ sym f)

-- the table has what is shown
pub table_after : (kept first last : List Bool) (add out : List ℕ) (full before table : Placed) → ((p : ℕ) → places_of first p ≡ (places_of kept p && not (is_among add p || is_among out p))) → AreShown kept last out
    → before ≡ only first full → length table ≡ length before → IsPutIn full add last before table → table ≡ only last full
table_after kept first last add out full before table f l is size put =
    only-from last full table (size ∙ ap length is ∙ only-length first full)
    (λ p. put p ∙ entry_bit (places_of kept p) (is_among add p) (is_among out p) (places_of first p) (places_of last p) (numbers_at full p) (numbers_at before p) (f p) (l p) (ap (λ t. numbers_at t p) is ∙ only-at first full p))

put_bit : (a e s : Bool) (xs ys zs : List ℕ) → zs ≡ (if (a && s) then xs else ys) → (if ((a || e) && s) then xs else ys) ≡ (if (e && s) then xs else zs)
put_bit true true true xs ys zs h = refl
put_bit true false true xs ys zs h = sym h
put_bit true true false xs ys zs h = sym h
put_bit true false false xs ys zs h = sym h
put_bit false true true xs ys zs h = refl
put_bit false true false xs ys zs h = sym h
put_bit false false s xs ys zs h = sym h

-- one place more is put
pub put_more : (full first table next : Placed) (places : List ℕ) (k : ℕ) (shown : List Bool) → k < length places → IsPutIn full (take k places) shown first table → IsPutIn full (get_or places k 0 ∷ []) shown table next
    → IsPutIn full (take (k + 1) places) shown first next
put_more full first table next places k shown h before one p =
    let q = get_or places k 0 in
    one p ∙ ap (λ b. if (b && places_of shown p) then numbers_at full p else numbers_at table p) (or_nothing (eqb q p))
    ∙ sym (ap (λ b. if (b && places_of shown p) then numbers_at full p else numbers_at first p) (among_more places k p 0 h)
    ∙ put_bit (is_among (take k places) p) (eqb q p) (places_of shown p) (numbers_at full p) (numbers_at first p) (numbers_at table p) (before p))

-- ---- how much stands there

pub fewer_numbers : (table full : Placed) → length table ≡ length full → HasFewer table full → sum_by length table ≤ sum_by length full
fewer_numbers [] [] size fewer = omega arith
fewer_numbers [] (y ∷ full) size fewer = absurd (omega arith)
fewer_numbers (x ∷ table) [] size fewer = absurd (omega arith)
fewer_numbers (x ∷ table) (y ∷ full) size fewer =
    let rest = fewer_numbers table full (omega arith) (λ p. fewer (suc p)) in
    elim (fewer 0) [
      | inl none ↦ omega (arith, sum_by-cons length x table, sum_by-cons length y full, ap length none, rest)
      | inr same ↦ omega (arith, sum_by-cons length x table, sum_by-cons length y full, ap length same, rest)
    ]

pub entry_few : (table : Placed) (p : ℕ) → length (numbers_at table p) ≤ sum_by length table
entry_few [] p = omega arith
entry_few (x ∷ table) zero = omega (arith, sum_by-cons length x table)
entry_few (x ∷ table) (suc p) = omega (arith, sum_by-cons length x table, entry_few table p)

-- ---- what is found

module _ (base : Bag) (before table : Placed) (w : Places) (more : List ℕ) (place : ℕ) (numbers : List ℕ) (within : place < length table) (none : numbers_at table place ≡ []) (old : HasMore base base before table w more) where
  in_place : (v : Places) (i : ℕ) → found (set table place numbers) v i ≡ found table v i + cond (v place) (times_in i numbers) 0
  in_place v i =
      let same : set table place (get_or table place [] ++ numbers) ≡ set table place numbers = ap (λ ns. set table place (ns ++ numbers)) none in
      let at : cond (v (0 + place)) (times_in i numbers) 0 ≡ cond (v place) (times_in i numbers) 0 = ap (λ p. cond (v p) (times_in i numbers) 0) (zero-add place) in
      sym (ap (λ t. found t v i) same) ∙ found_set 0 place table numbers v i within ∙ ap (λ n. found table v i + n) at

  found_if : (b : Bool) → w place ≡ b → HasMore base base before (set table place numbers) w (more ++ (if b then numbers else []))
  found_if true e = record {
    counts = λ i. let here : cond (w place) (times_in i numbers) 0 ≡ times_in i numbers = rw e refl in omega (arith, old.counts i, in_place w i, here, times_in-append i more numbers);
    grows = λ v i. omega (arith, old.grows v i, in_place v i);
  }
  found_if false e = record {
    counts = λ i. let gone : cond (w place) (times_in i numbers) 0 ≡ 0 = rw e refl in omega (arith, old.counts i, in_place w i, gone, times_in-append i more []);
    grows = λ v i. omega (arith, old.grows v i, in_place v i);
  }

  pub found_put : HasMore base base before (set table place numbers) w (more ++ (if w place then numbers else []))
  found_put = found_if (w place) refl

pub within_put : (items : ℕ) (full : Placed) (place : ℕ) (more : List ℕ) (b : Bool) → place < length full → All (All (λ i. i < items)) full → All (λ i. i < items) more → All (λ i. i < items) (more ++ (if b then numbers_at full place else []))
within_put items full place more true h all before = All-append (λ i. i < items) more (numbers_at full place) before (all place [] h)
within_put items full place more false h all before = All-append (λ i. i < items) more [] before (All-nil (λ i. i < items))

pub nothing_more : (base : Bag) (table : Placed) (w : Places) (more : List ℕ) → more ≡ [] → HasMore base base table table w more
nothing_more base table w more none = rw none record { counts = λ i. omega arith; grows = λ v i. omega arith }

-- ---- what is taken out

out_bit : (a e : Bool) (xs ys : List ℕ) → ys ≡ (if a then [] else xs) → (if (a || e) then [] else xs) ≡ (if e then [] else ys)
out_bit true true xs ys h = refl
out_bit true false xs ys h = sym h
out_bit false true xs ys h = refl
out_bit false false xs ys h = sym h

pub out_more : (places : List ℕ) (k : ℕ) (first table : Placed) (numbers : List ℕ) → k < length places → get_or places k 0 < length table → numbers ≡ []
    → ((p : ℕ) → numbers_at table p ≡ (if is_among (take k places) p then [] else numbers_at first p))
    → (p : ℕ) → numbers_at (set table (get_or places k 0) numbers) p ≡ (if is_among (take (k + 1) places) p then [] else numbers_at first p)
out_more places k first table numbers h within none before p =
    let q = get_or places k 0 in
    let more = ap (λ b. if b then [] else numbers_at first p) (among_more places k p 0 h) ∙ out_bit (is_among (take k places) p) (eqb q p) (numbers_at first p) (numbers_at table p) (before p) in
    elim (cases_eq p q) [
      | inl here ↦
          let e : eqb q p ≡ true = eq-eqb q p (sym here) in
          ap (numbers_at (set table q numbers)) here ∙ get_or-set_same table q numbers [] within ∙ none ∙ sym (more ∙ ap (λ b. if b then [] else numbers_at table p) e)
      | inr other ↦
          let e : eqb q p ≡ false = ne_eqb q p (λ s. other (sym s)) in
          get_or-set_other table q p numbers [] other ∙ sym (more ∙ ap (λ b. if b then [] else numbers_at table p) e)
    ]

hidden_bit : (a s l : Bool) (xs ys : List ℕ) → l ≡ (s && not a) → ys ≡ (if s then xs else []) → (if a then [] else ys) ≡ (if l then xs else [])
hidden_bit true s l xs ys e h = sym (ap (λ b. if b then xs else []) (e ∙ and_none s))
hidden_bit false s l xs ys e h = h ∙ ap (λ b. if b then xs else []) (sym (e ∙ and_all s))

pub table_hidden : (first last : List Bool) (places : List ℕ) (full before table : Placed) → ((p : ℕ) → places_of last p ≡ (places_of first p && not (is_among places p))) → before ≡ only first full
    → length table ≡ length before → ((p : ℕ) → numbers_at table p ≡ (if is_among places p then [] else numbers_at before p)) → table ≡ only last full
table_hidden first last places full before table l is size out =
    only-from last full table (size ∙ ap length is ∙ only-length first full)
    (λ p. out p ∙ hidden_bit (is_among places p) (places_of first p) (places_of last p) (numbers_at full p) (numbers_at before p) (l p) (ap (λ t. numbers_at t p) is ∙ only-at first full p))

-- ---- at first

pub nothing_shown : (joint : Joint) (full table : Placed) (shown : List Bool) (n : ℕ) → shown ≡ replicate n false → IsPlaced joint [] table → length full ≡ place_total joint.slots → table ≡ only shown full
nothing_shown joint full table shown n none placed size =
    only-from shown full table (placed.size ∙ sym size) (λ p. placed.entries p ∙ sym (ap (λ b. if b then numbers_at full p else []) (ap (λ flags. places_of flags p) none ∙ replicate-false n p)))
