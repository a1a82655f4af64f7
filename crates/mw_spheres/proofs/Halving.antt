-- Entries asked by halves.
use Rattle.std.proofs.Common.{◌≡◌, ℕ, Bool, true, false, ◌&&◌, ◌||◌, not, List, ◌++◌, Option, set, refl, sym, ap, subst, ◌∙◌, inl, inr}
use Rattle.std.proofs.lemmas.Bool.{cases_Bool}
use Rattle.mw_rules.specs.Holds.{bag_of, places_of}
use Rattle.mw_rules.specs.Names.{is_among}
use Rattle.mw_multi.specs.Bags.{start_count}
use Rattle.mw_multi.specs.Joint.{Joint}
use Rattle.mw_multi.specs.Steps.{steps_of}
use Rattle.mw_reach.specs.Reach.{Placed, bag_with}
use Rattle.mw_reach.specs.GoingOn.{IsFinished}
use Rattle.mw_reach.specs.Goals.{unmet_goal}
use Rattle.mw_reach.proofs.Beating.{unmet_goal-same}
use Rattle.mw_spheres.specs.Playthrough.{only}
use Rattle.mw_spheres.specs.Unmet.{IsFirstUnmet}
use Rattle.mw_spheres.specs.Thinning.{AreShown, AreSameBut}
use Rattle.mw_spheres.proofs.Only.{only-same}
use Rattle.mw_spheres.proofs.Revealing.{among-append}

neither : (a b : Bool) → (a || b) ≡ false → (a ≡ false) × (b ≡ false)
neither true b e = cc
neither false b e = (refl, e)

and_none : (b : Bool) → (b && false) ≡ false
and_none true = refl
and_none false = refl

and_all : (b : Bool) → (b && true) ≡ b
and_all true = refl
and_all false = refl

swapped : (a b : Bool) → (a || b) ≡ (b || a)
swapped true true = refl
swapped true false = refl
swapped false true = refl
swapped false false = refl

-- what is shown before the second half, after it, and before the first half
module _ (kept later shown one two three : List Bool) (places below above : List ℕ) (whole : places ≡ below ++ above)
    (at_first : AreShown kept shown places) (before : AreShown kept one above) (kept_same : AreSameBut above kept later) (shown_same : AreSameBut above one two)
    (hidden : (p : ℕ) → places_of three p ≡ (places_of two p && not (is_among places p))) where
  either : (p : ℕ) → is_among places p ≡ (is_among below p || is_among above p)
  either p = ap (λ ps. is_among ps p) whole ∙ among-append below above p

  pub apart : (p : ℕ) → is_among places p ≡ false → (is_among below p ≡ false) × (is_among above p ≡ false)
  apart p e = neither (is_among below p) (is_among above p) (sym (either p) ∙ e)

  pub first_shown : (p : ℕ) → places_of shown p ≡ (places_of kept p && not (is_among below p || is_among above p))
  first_shown p = at_first p ∙ ap (λ b. places_of kept p && not b) (either p)

  elsewhere : (p : ℕ) → is_among places p ≡ false → places_of three p ≡ places_of kept p
  elsewhere p e =
      hidden p ∙ ap (λ b. places_of two p && not b) e ∙ and_all (places_of two p) ∙ shown_same p (apart p e).1
      ∙ before p ∙ ap (λ b. places_of kept p && not b) (apart p e).1 ∙ and_all (places_of kept p)

  none_here : (p : ℕ) → is_among places p ≡ true → places_of three p ≡ false
  none_here p e = hidden p ∙ ap (λ b. places_of two p && not b) e ∙ and_none (places_of two p)

  pub then_shown : (p : ℕ) → places_of three p ≡ (places_of later p && not (is_among above p || is_among below p))
  then_shown p =
      let other : (is_among above p || is_among below p) ≡ is_among places p = swapped (is_among above p) (is_among below p) ∙ sym (either p) in
      elim (cases_Bool (is_among places p)) [
        | inl here ↦ none_here p here ∙ sym (ap (λ b. places_of later p && not b) (other ∙ here) ∙ and_none (places_of later p))
        | inr gone ↦ elsewhere p gone ∙ sym (ap (λ b. places_of later p && not b) (other ∙ gone) ∙ and_all (places_of later p) ∙ kept_same p (apart p gone).1)
      ]

  pub same_again : (p : ℕ) → places_of three p ≡ places_of shown p
  same_again p = elim (cases_Bool (is_among places p)) [
    | inl here ↦ none_here p here ∙ sym (at_first p ∙ ap (λ b. places_of kept p && not b) here ∙ and_none (places_of kept p))
    | inr gone ↦ elsewhere p gone ∙ sym (at_first p ∙ ap (λ b. places_of kept p && not b) gone ∙ and_all (places_of kept p))
  ]

  -- at all other places the flags end as they began
  pub others : (end four five : List Bool) → AreSameBut below later end → AreShown later four below → AreSameBut below four five → AreSameBut places kept end × AreSameBut places shown five
  others end four five a b d = (
    λ p e. a p (apart p e).0 ∙ kept_same p (apart p e).1,
    λ p e.
        d p (apart p e).0 ∙ b p ∙ ap (λ x. places_of later p && not x) (apart p e).0 ∙ and_all (places_of later p) ∙ kept_same p (apart p e).1
        ∙ sym (at_first p ∙ ap (λ x. places_of kept p && not x) e ∙ and_all (places_of kept p)),
  )

pub none_among : (b : Bool) → (b && not b) ≡ false
none_among true = refl
none_among false = refl

-- the first goal that is unmet without a place
pub unmet_without : (joint : Joint) (full table : Placed) (place : ℕ) (kept shown : List Bool) (flags : List Bool) (counts : List ℕ) → ((p : ℕ) → places_of shown p ≡ places_of (set kept place false) p) → table ≡ only shown full
    → IsFinished (steps_of joint) (start_count joint.slots) table flags counts → (slot : Option ℕ) → slot ≡ unmet_goal joint (bag_of counts) (places_of flags) → IsFirstUnmet joint (only (set kept place false) full) slot
unmet_without joint full table place kept shown flags counts same is settled slot e =
    let without : table ≡ only (set kept place false) full = is ∙ only-same shown (set kept place false) full same in
    subst (λ t. IsFirstUnmet joint t slot) without record {
      reached = places_of flags;
      least = settled.least;
      unmet = e ∙ unmet_goal-same joint (bag_of counts) (bag_with (start_count joint.slots) table (places_of flags)) (places_of flags) (λ i. settled.tally i);
    }
