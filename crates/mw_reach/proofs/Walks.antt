-- Steps and lists that grow.
use Rattle.std.proofs.Common.{◌≡◌, ℕ, zero, suc, ◌+◌, ◌^◌, ◌<◌, Bool, true, false, List, length, replicate, All, Option, None, Some, refl, sym, ap, ◌∙◌, inl, inr, arith, add-zero}
use Rattle.std.specs.Prelude.{sum_by}
use Rattle.std.proofs.lemmas.Bool.{and_parts, and_from, cases_lt}
use Rattle.std.proofs.lemmas.List.{get_or_past}
use Rattle.mw_rules.specs.Holds.{Bag, Places, bag_of, places_of, holds}
use Rattle.mw_rules.specs.Laws.{HasNoLess, IsPartOf}
use Rattle.mw_rules.proofs.Staying.{stays_true}
use Rattle.mw_multi.specs.Steps.{Step}
use Rattle.mw_reach.specs.Reach.{Placed, bag_with, starts_in, is_open}
use Rattle.mw_reach.specs.Counts.{IsTally, CountsFit, outside}
use Rattle.mw_reach.proofs.Found.{found_more, found_none, found-le}

starts_more : (from : Option ℕ) (v w : Places) → IsPartOf v w → starts_in from v ≡ true → starts_in from w ≡ true
starts_more None v w h e = refl
starts_more (Some p) v w h e = h p e

-- a step stays open with more items and places
pub open_more : (step : Step) (a b : Bag) (v w : Places) → HasNoLess a b → IsPartOf v w → is_open step a v ≡ true → is_open step b w ≡ true
open_more step a b v w h k e =
    let parts = and_parts (starts_in step.from v) (holds step.rule (λ i. a (step.first_item + i)) (λ p. v (step.first_place + p))) e in
    and_from _ _ (starts_more step.from v w k parts.0) (stays_true step.rule _ _ _ _ (λ i. h (step.first_item + i)) (λ p. k (step.first_place + p)) parts.1)

-- the bag grows with the list
pub bag_more : (base : Bag) (placed : Placed) (v w : Places) → IsPartOf v w → HasNoLess (bag_with base placed v) (bag_with base placed w)
bag_more base placed v w h i = omega (arith, found_more 0 placed v w i h)

pub replicate-false : (n p : ℕ) → places_of (replicate n false) p ≡ false
replicate-false zero p = refl
replicate-false (suc n) zero = refl
replicate-false (suc n) (suc p) = replicate-false n p

bag_of-below : (counts : List ℕ) (n i : ℕ) → 0 < n → All (λ c. c < n) counts → bag_of counts i < n
bag_of-below counts n i h a = elim (cases_lt i (length counts)) [
  | inl l ↦ a i 0 l
  | inr g ↦ let past : bag_of counts i ≡ 0 = get_or_past counts i 0 g in omega arith
]

-- with no place in the list
pub record IsBegun (base : List ℕ) (placed : Placed) (places : List Bool) (counts : List ℕ) : Type 0 where
  pub tally : IsTally (bag_of base) placed places counts
  pub room : CountsFit placed places counts

pub at_first : (placed : Placed) (n : ℕ) (base counts : List ℕ) (places : List Bool)
    → places ≡ replicate n false → counts ≡ base → sum_by length placed < 2 ^ 31 → All (λ c. c < 2 ^ 31) base
    → IsBegun base placed places counts
at_first placed n base counts places none copied few small = record {
  tally = λ i. rw (copied, none) (sym (ap (λ f. bag_of base i + f) (found_none 0 placed (places_of (replicate n false)) i (replicate-false n)) ∙ add-zero (bag_of base i)));
  room = λ i.
      let low : bag_of base i < 2 ^ 31 = bag_of-below base (2 ^ 31) i (omega arith) small in
      let bag : bag_of counts i ≡ bag_of base i = ap (λ cs. bag_of cs i) copied in
      omega (arith, found-le 0 placed (outside places) i);
}
