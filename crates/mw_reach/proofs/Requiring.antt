-- What is required of a list of places, and the first thing that it lacks.
use Rattle.std.proofs.Common.{◌≡◌, ℕ, zero, suc, ◌+◌, ◌<◌, Bool, true, false, List, [], ◌∷◌, Option, Some, None, length, drop, refl, sym, ap, ap₂, ◌∙◌, inl, inr, arith}
use Rattle.std.specs.Prelude.{◌&&◌, is_none, if◌then◌else◌}
use Rattle.std.specs.List.{list_all}
use Rattle.std.proofs.lemmas.Bool.{cases_Bool, and_parts, and_from}
use Rattle.mw_rules.specs.Holds.{Bag, Places, bag_of}
use Rattle.mw_rules.specs.Laws.{HasNoLess, IsPartOf}
use Rattle.mw_multi.specs.World.{Location}
use Rattle.mw_multi.specs.Joint.{Slot, Joint}
use Rattle.mw_multi.specs.Bags.{start_count}
use Rattle.mw_multi.specs.Steps.{steps_of, location_place}
use Rattle.mw_multi.specs.declared.access.Access.{Access}
use Rattle.mw_multi.specs.declared.access.Access.TheVariants.{Full, Items, Minimal}
use Rattle.mw_reach.specs.Reach.{Placed, bag_with, IsLeast}
use Rattle.mw_reach.specs.Goals.{goal_holds, unmet_from, unmet_goal}
use Rattle.mw_reach.specs.Required.{first_outside, wanted, missed_in, slot_required, is_required, Required, IsBeatable, or_later, missed_from, missed_location, or_location, first_lack}
use Rattle.mw_reach.specs.declared.lack.Lack.{Lack}
use Rattle.mw_reach.specs.Rows.{slot_at}
use Rattle.mw_reach.proofs.Beating.{goal_more, unmet_by_counts, slot_here}
use Rattle.mw_reach.proofs.Walks.{bag_more}

-- ---- nothing lacks exactly where all is as required

none_if : {X : Type 0} (b : Bool) (x : X) (o : Option X) → is_none (if b then o else Some x) ≡ (b && is_none o)
none_if true x o = refl
none_if false x o = refl

goals_all : (number : ℕ) (slots : List Slot) (bag : Bag) (w : Places) → is_none (unmet_from number slots bag w) ≡ list_all (goal_holds bag w) slots
goals_all number [] bag w = refl
goals_all number (s ∷ slots) bag w =
    none_if (goal_holds bag w s) number (unmet_from (suc number) slots bag w) ∙ ap (λ b. goal_holds bag w s && b) (goals_all (suc number) slots bag w)

none_later : (number : ℕ) (o : Option ℕ) (later : Option Lack) → is_none (or_later number o later) ≡ (is_none o && is_none later)
none_later number None later = refl
none_later number (Some place) later = refl

missed_all : (number : ℕ) (slots : List Slot) (w : Places) → is_none (missed_from number slots w) ≡ list_all (λ s. is_none (missed_in w s)) slots
missed_all number [] w = refl
missed_all number (s ∷ slots) w =
    none_later number (missed_in w s) (missed_from (suc number) slots w) ∙ ap (λ b. is_none (missed_in w s) && b) (missed_all (suc number) slots w)

and_pairs : (a b c d : Bool) → ((a && b) && (c && d)) ≡ ((a && c) && (b && d))
and_pairs true true c d = refl
and_pairs true false true d = refl
and_pairs true false false d = refl
and_pairs false b c d = refl

all_both : (p q : Slot → Bool) (slots : List Slot) → list_all (λ s. p s && q s) slots ≡ (list_all p slots && list_all q slots)
all_both p q [] = refl
all_both p q (s ∷ slots) = ap (λ b. (p s && q s) && b) (all_both p q slots) ∙ and_pairs (p s) (q s) (list_all p slots) (list_all q slots)

none_lacking : (u : Option ℕ) (m : Option Lack) → is_none (or_location u m) ≡ (is_none u && is_none m)
none_lacking None m = refl
none_lacking (Some slot) m = refl

pub required_is : (joint : Joint) (bag : Bag) (w : Places) → is_required joint bag w ≡ is_none (first_lack joint bag w)
required_is joint bag w =
    all_both (goal_holds bag w) (λ s. is_none (missed_in w s)) joint.slots
    ∙ ap₂ (λ a b. a && b) (sym (goals_all 1 joint.slots bag w)) (sym (missed_all 1 joint.slots w))
    ∙ sym (none_lacking (unmet_goal joint bag w) (missed_location joint w))

is_none-from : {X : Type 0} (o : Option X) → o ≡ None → is_none o ≡ true
is_none-from None e = refl
is_none-from (Some x) e = cc

none_from : {X : Type 0} (o : Option X) → is_none o ≡ true → o ≡ None
none_from None e = refl
none_from (Some x) e = cc

pub required_of_none : (joint : Joint) (bag : Bag) (w : Places) → first_lack joint bag w ≡ None → Required joint bag w
required_of_none joint bag w e = required_is joint bag w ∙ is_none-from (first_lack joint bag w) e

pub none_of_required : (joint : Joint) (bag : Bag) (w : Places) → Required joint bag w → first_lack joint bag w ≡ None
none_of_required joint bag w r = none_from (first_lack joint bag w) (sym (required_is joint bag w) ∙ r)

-- ---- more items and places

inside : (w : Places) (s : Slot) (index : ℕ) (l : Location) (ls : List Location) → w (location_place s index) ≡ true → first_outside w s index (l ∷ ls) ≡ first_outside w s (suc index) ls
inside w s index l ls e = rw e refl

outside : (w : Places) (s : Slot) (index : ℕ) (l : Location) (ls : List Location) → w (location_place s index) ≡ false → first_outside w s index (l ∷ ls) ≡ Some index
outside w s index l ls e = rw e refl

none_outside : (v w : Places) (s : Slot) (index : ℕ) (ls : List Location) → IsPartOf v w → first_outside v s index ls ≡ None → first_outside w s index ls ≡ None
none_outside v w s index [] part e = refl
none_outside v w s index (l ∷ ls) part e = elim (cases_Bool (v (location_place s index))) [
  | inl there ↦ inside w s index l ls (part (location_place s index) there) ∙ none_outside v w s (suc index) ls part (sym (inside v s index l ls there) ∙ e)
  | inr away ↦ let f = outside v s index l ls away in cc
]

none_wanted : (a : Access) (x y : Option ℕ) → (x ≡ None → y ≡ None) → is_none (wanted a x) ≡ true → is_none (wanted a y) ≡ true
none_wanted Full x y h e = is_none-from y (h (none_from x e))
none_wanted Items x y h e = refl
none_wanted Minimal x y h e = refl

slot_more : (a b : Bag) (v w : Places) (s : Slot) → HasNoLess a b → IsPartOf v w → slot_required a v s ≡ true → slot_required b w s ≡ true
slot_more a b v w s more part e =
    let both = and_parts (goal_holds a v s) (is_none (missed_in v s)) e in
    and_from (goal_holds b w s) (is_none (missed_in w s)) (goal_more a b v w s more part both.0)
    (none_wanted s.access (first_outside v s 0 s.world.locations) (first_outside w s 0 s.world.locations) (none_outside v w s 0 s.world.locations part) both.1)

slots_more : (a b : Bag) (v w : Places) (slots : List Slot) → HasNoLess a b → IsPartOf v w → list_all (slot_required a v) slots ≡ true → list_all (slot_required b w) slots ≡ true
slots_more a b v w [] more part e = refl
slots_more a b v w (s ∷ slots) more part e =
    let both = and_parts (slot_required a v s) (list_all (slot_required a v) slots) e in
    and_from (slot_required b w s) (list_all (slot_required b w) slots) (slot_more a b v w s more part both.0) (slots_more a b v w slots more part both.1)

-- what is as required with less is so with more
pub required_more : (joint : Joint) (a b : Bag) (v w : Places) → HasNoLess a b → IsPartOf v w → Required joint a v → Required joint b w
required_more joint a b v w more part e = slots_more a b v w joint.slots more part e

-- what is lacking by counts in hand
pub lack_by_counts : (joint : Joint) (base : List ℕ) (placed : Placed) (w : Places) (counts : List ℕ) (start : Bag) → ((i : ℕ) → bag_of base i ≡ start i)
    → ((i : ℕ) → bag_of counts i ≡ bag_with (bag_of base) placed w i) → first_lack joint (bag_of counts) w ≡ first_lack joint (bag_with start placed w) w
lack_by_counts joint base placed w counts start is tally = ap (λ u. or_location u (missed_location joint w)) (unmet_by_counts joint base placed w counts start is tally)

-- ---- placements that can be beaten

module _ (joint : Joint) (placed : Placed) (w : Places) (least : IsLeast (steps_of joint) (start_count joint.slots) placed w) where
  abbrev bag : Bag
  bag = bag_with (start_count joint.slots) placed w

  -- what the least list has every closed one has
  pub beatable_by_least : first_lack joint bag w ≡ None → IsBeatable joint placed
  beatable_by_least e = λ v closed.
      let part = least.least v closed in
      required_more joint bag (bag_with (start_count joint.slots) placed v) w v (bag_more (start_count joint.slots) placed w v part) part (required_of_none joint bag w e)

-- ---- location by location, and slot by slot

pub next_inside : (w : Places) (s : Slot) (ls : List Location) (index number : ℕ) → number < length ls → w (location_place s index) ≡ true
    → first_outside w s index (drop number ls) ≡ first_outside w s (suc index) (drop (suc number) ls)
next_inside w s [] index number h e = absurd (omega arith)
next_inside w s (l ∷ ls) index zero h e = inside w s index l ls e
next_inside w s (l ∷ ls) index (suc number) h e = next_inside w s ls index number (omega arith) e

pub next_outside : (w : Places) (s : Slot) (ls : List Location) (index number : ℕ) → number < length ls → w (location_place s index) ≡ false
    → first_outside w s index (drop number ls) ≡ Some index
next_outside w s [] index number h e = absurd (omega arith)
next_outside w s (l ∷ ls) index zero h e = outside w s index l ls e
next_outside w s (l ∷ ls) index (suc number) h e = next_outside w s ls index number (omega arith) e

module _ (joint : Joint) (index : ℕ) (h : index < length joint.slots) (w : Places) where
  first : missed_from (suc index) (drop index joint.slots) w ≡ or_later (suc index) (missed_in w (slot_at joint index)) (missed_from (suc (suc index)) (drop (suc index) joint.slots) w)
  first = ap (λ ss. missed_from (suc index) ss w) (slot_here joint index h)

  pub next_seen : missed_in w (slot_at joint index) ≡ None → missed_from (suc (index + 1)) (drop (index + 1) joint.slots) w ≡ missed_from (suc index) (drop index joint.slots) w
  next_seen e =
      let one : index + 1 ≡ suc index = omega arith in
      ap (λ n. missed_from (suc n) (drop n joint.slots) w) one
      ∙ sym (first ∙ ap (λ m. or_later (suc index) m (missed_from (suc (suc index)) (drop (suc index) joint.slots) w)) e)
