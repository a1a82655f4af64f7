-- A placement with its spheres has one playthrough.
use Rattle.std.proofs.Common.{◌≡◌, ℕ, Bool, false, List, [], ◌∷◌, Option, length, map, sym, ap, subst, ◌∙◌, arith}
use Rattle.std.specs.Prelude.{filter, slice_set}
use Rattle.std.proofs.lemmas.List.{get_or_default, same_lists}
use mathlib.Core.Path.{fun_ext}
use Rattle.mw_rules.specs.Holds.{Places, places_of}
use Rattle.mw_multi.specs.Joint.{Joint}
use Rattle.mw_multi.specs.Bags.{start_count}
use Rattle.mw_multi.specs.Steps.{steps_of}
use Rattle.mw_reach.specs.Reach.{Placed, bag_with}
use Rattle.mw_reach.specs.Goals.{unmet_goal}
use Rattle.mw_spheres.specs.Unmet.{IsFirstUnmet}
use Rattle.mw_spheres.specs.Playthrough.{only, after, IsAsked, IsThinned, is_kept}
use Rattle.mw_spheres.specs.Laws.{PlaythroughsAreOne}
use Rattle.mw_spheres.proofs.OneList.{least_same}

same_flags : (a b : List Bool) → length a ≡ length b → ((p : ℕ) → places_of a p ≡ places_of b p) → a ≡ b
same_flags a b size entries = same_lists a b size (λ k d h. get_or_default a k d false h ∙ entries k ∙ get_or_default b k false d (omega arith))

-- a placement has one first goal that it leaves unmet
pub one_unmet : (joint : Joint) (table : Placed) (s t : Option ℕ) → IsFirstUnmet joint table s → IsFirstUnmet joint table t → s ≡ t
one_unmet joint table s t x y =
    let start = start_count joint.slots in
    let same : x.reached ≡ y.reached = fun_ext (least_same (steps_of joint) start table x.reached y.reached x.least y.least) in
    x.unmet ∙ ap (λ (w : Places). unmet_goal joint (bag_with start table w) w) same ∙ sym y.unmet

one_asked : (joint : Joint) (table : Placed) (p : ℕ) (before a b : List Bool) → IsAsked joint table p before a → IsAsked joint table p before b → a ≡ b
one_asked joint table p before a b x y = x.is ∙ ap (λ s. after s before p) (one_unmet joint (only (slice_set before p false) table) x.slot y.slot x.unmet y.unmet) ∙ sym y.is

one_thinned : (joint : Joint) (table : Placed) (places : List ℕ) (first a b : List Bool) → IsThinned joint table places first a → IsThinned joint table places first b → a ≡ b
one_thinned joint table [] first a b x y = x ∙ sym y
one_thinned joint table (p ∷ places) first a b x y =
    let same : x.0 ≡ y.0 = one_thinned joint table places first x.0 y.0 x.1 y.1 in
    one_asked joint table p y.0 a b (subst (λ later. IsAsked joint table p later a) same x.2) y.2

pub playthroughs_are_one : PlaythroughsAreOne
playthroughs_are_one joint puts spheres a b x y =
    let first : x.first ≡ y.first = same_flags x.first y.first (x.size ∙ sym y.size) (λ p. x.entries p ∙ sym (y.entries p)) in
    let kept : x.kept ≡ y.kept = one_thinned joint _ _ y.first x.kept y.kept (subst (λ f. IsThinned joint _ _ f x.kept) first x.thinned) y.thinned in
    x.is ∙ ap (λ ks. map (filter (is_kept joint.slots ks)) spheres) kept ∙ sym y.is
