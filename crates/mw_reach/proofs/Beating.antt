-- Goals that hold, and placements that meet them.
use Rattle.std.proofs.Common.{◌≡◌, ℕ, suc, ◌+◌, ◌-◌, ◌<◌, ◌≤◌, Bool, true, false, List, [], ◌∷◌, ◌++◌, Some, None, length, get_or, map, take, drop, All, refl, sym, ap, subst, ◌∙◌, inl, inr, arith}
use Rattle.std.specs.Prelude.{flat_map}
use Rattle.std.proofs.Math.Seq.{drop-cons}
use Rattle.std.proofs.lemmas.Bool.{cases_Bool}
use Rattle.std.proofs.lemmas.List.{length-append}
use Rattle.std.proofs.lemmas.List.Elements.{All-nil, All-cons}
use Rattle.mw_rules.specs.Rule.{Rule, IsWithin}
use Rattle.mw_rules.specs.Ruling.{rule_at}
use Rattle.mw_rules.specs.Holds.{Bag, Places, bag_of, places_of, holds}
use Rattle.mw_rules.specs.Laws.{HasNoLess, IsPartOf}
use Rattle.mw_rules.proofs.Staying.{stays_true}
use Rattle.mw_rules.proofs.Naming.{hangs_on_names}
use Rattle.mw_multi.specs.Joint.{Slot, Joint, IsJoint, slot_items, slot_places, place_total, item_total}
use Rattle.mw_multi.specs.Bags.{start_count}
use Rattle.mw_multi.specs.Steps.{steps_of, rule_list, entrance_rule, location_rule, slot_rules}
use Rattle.mw_reach.specs.Reach.{Placed, bag_with, IsLeast}
use Rattle.mw_reach.specs.Goals.{goal_holds, GoalsHold, unmet_from, unmet_goal, MeetsGoals}
use Rattle.mw_reach.specs.Building.{HasRules}
use Rattle.mw_reach.specs.Rows.{no_slot, slot_at}
use Rattle.mw_reach.proofs.Slots.{rules_back, slot_fits, slot_rules_there}

-- ---- more items and places

-- a goal that holds for less holds for more
pub goal_more : (a b : Bag) (v w : Places) (s : Slot) → HasNoLess a b → IsPartOf v w → goal_holds a v s ≡ true → goal_holds b w s ≡ true
goal_more a b v w s h k e = stays_true s.world.goal _ _ _ _ (λ i. h (s.first_item + i)) (λ p. k (s.first_place + p)) e

pub goals_more : (joint : Joint) (a b : Bag) (v w : Places) → HasNoLess a b → IsPartOf v w → GoalsHold joint a v → GoalsHold joint b w
goals_more joint a b v w h k goals = λ i d l. goal_more a b v w (get_or joint.slots i d) h k (goals i d l)

-- with as many of each item it's the same
goal_same : (a b : Bag) (w : Places) (s : Slot) → ((i : ℕ) → a i ≡ b i) → goal_holds a w s ≡ goal_holds b w s
goal_same a b w s h = hangs_on_names s.world.goal _ _ _ _ (λ i e. h (s.first_item + i)) (λ p e. refl)

-- ---- the first goal that doesn't hold

met : (bag : Bag) (w : Places) (s : Slot) (number : ℕ) (slots : List Slot) → goal_holds bag w s ≡ true → unmet_from number (s ∷ slots) bag w ≡ unmet_from (suc number) slots bag w
met bag w s number slots e = rw e refl

unmet : (bag : Bag) (w : Places) (s : Slot) (number : ℕ) (slots : List Slot) → goal_holds bag w s ≡ false → unmet_from number (s ∷ slots) bag w ≡ Some number
unmet bag w s number slots e = rw e refl

all_met : (number : ℕ) (slots : List Slot) (bag : Bag) (w : Places) → unmet_from number slots bag w ≡ None → All (λ s. goal_holds bag w s ≡ true) slots
all_met number [] bag w e = All-nil (λ s. goal_holds bag w s ≡ true)
all_met number (s ∷ slots) bag w e = elim (cases_Bool (goal_holds bag w s)) [
  | inl holds ↦ All-cons (λ s. goal_holds bag w s ≡ true) s slots holds (all_met (suc number) slots bag w (sym (met bag w s number slots holds) ∙ e))
  | inr fails ↦ let f = unmet bag w s number slots fails in cc
]

none_unmet : (number : ℕ) (slots : List Slot) (bag : Bag) (w : Places) → All (λ s. goal_holds bag w s ≡ true) slots → unmet_from number slots bag w ≡ None
none_unmet number [] bag w all = refl
none_unmet number (s ∷ slots) bag w all =
    met bag w s number slots (all 0 s (omega arith)) ∙ none_unmet (suc number) slots bag w (λ i d l. all (suc i) d (omega arith))

unmet_from-same : (number : ℕ) (slots : List Slot) (a b : Bag) (w : Places) → ((i : ℕ) → a i ≡ b i) → unmet_from number slots a w ≡ unmet_from number slots b w
unmet_from-same number [] a b w h = refl
unmet_from-same number (s ∷ slots) a b w h = elim (cases_Bool (goal_holds a w s)) [
  | inl holds ↦ met a w s number slots holds ∙ unmet_from-same (suc number) slots a b w h ∙ sym (met b w s number slots (sym (goal_same a b w s h) ∙ holds))
  | inr fails ↦ unmet a w s number slots fails ∙ sym (unmet b w s number slots (sym (goal_same a b w s h) ∙ fails))
]

-- where each goal holds none is the first that doesn't
pub no_goal_unmet : (joint : Joint) (bag : Bag) (w : Places) → GoalsHold joint bag w → unmet_goal joint bag w ≡ None
no_goal_unmet joint bag w all = none_unmet 1 joint.slots bag w all

pub unmet_goal-same : (joint : Joint) (a b : Bag) (w : Places) → ((i : ℕ) → a i ≡ b i) → unmet_goal joint a w ≡ unmet_goal joint b w
unmet_goal-same joint a b w h = unmet_from-same 1 joint.slots a b w h

-- ---- placements that meet each goal

module _ (joint : Joint) (placed : Placed) (w : Places) (least : IsLeast (steps_of joint) (start_count joint.slots) placed w) where
  abbrev bag : Bag
  bag = bag_with (start_count joint.slots) placed w

  pub least_of_met : MeetsGoals joint placed → unmet_goal joint bag w ≡ None
  least_of_met meets = no_goal_unmet joint bag w (meets w least.closed)

-- the goals judged by counts in hand
pub unmet_by_counts : (joint : Joint) (base : List ℕ) (placed : Placed) (w : Places) (counts : List ℕ) (start : Bag) → ((i : ℕ) → bag_of base i ≡ start i)
    → ((i : ℕ) → bag_of counts i ≡ bag_with (bag_of base) placed w i) → unmet_goal joint (bag_of counts) w ≡ unmet_goal joint (bag_with start placed w) w
unmet_by_counts joint base placed w counts start is tally = unmet_goal-same joint (bag_of counts) (bag_with start placed w) w (λ i. omega (arith, tally i, is i))

-- ---- a goal's number among the rules

goal_there : (slots : List Slot) (i : ℕ) (s : Slot) (first : ℕ) → i < length slots → s ≡ get_or slots i s → first ≡ length (flat_map slot_rules (take i slots))
    → (first + length (slot_rules s) - 1 < length (flat_map slot_rules slots)) × (rule_at (flat_map slot_rules slots) (first + length (slot_rules s) - 1) ≡ s.world.goal)
goal_there slots i s first h is at =
    let rules = flat_map slot_rules slots in
    let entrances : List Rule = map entrance_rule s.world.entrances in
    let locations : List Rule = map location_rule s.world.locations in
    let there : HasRules rules first (slot_rules s) =
    subst (λ n. HasRules rules n (slot_rules s)) (sym at) (subst (λ t. HasRules rules (length (flat_map slot_rules (take i slots))) (slot_rules t)) (sym is) (slot_rules_there slots i s h)) in
    let back : HasRules rules (first + length entrances + length locations) (s.world.goal ∷ []) =
    rules_back rules (first + length entrances) locations (s.world.goal ∷ []) (rules_back rules first entrances (locations ++ s.world.goal ∷ []) there) in
    let here = back 0 (omega arith) in
    let number : first + length entrances + length locations + 0 ≡ first + length (slot_rules s) - 1 =
    omega (arith, length-append entrances (locations ++ s.world.goal ∷ []), length-append locations (s.world.goal ∷ [])) in
    (omega (arith, here.0), ap (rule_at rules) (sym number) ∙ here.1)

pub some_rules : (s : Slot) → 1 ≤ length (slot_rules s)
some_rules s =
    omega (
      arith,
      length-append (map entrance_rule s.world.entrances) (map location_rule s.world.locations ++ s.world.goal ∷ []),
      length-append (map location_rule s.world.locations) (s.world.goal ∷ []),
    )

-- the goal of the slot with this index is the rule with this number
pub record KnownGoal (joint : Joint) (index number : ℕ) : Type 0 where
  pub fits : number < length (rule_list joint)
  pub is : rule_at (rule_list joint) number ≡ (slot_at joint index).world.goal
  pub places : (slot_at joint index).first_place + slot_places (slot_at joint index) ≤ place_total joint.slots
  pub items : (slot_at joint index).first_item + slot_items (slot_at joint index) ≤ item_total joint.slots
  pub within : IsWithin (slot_items (slot_at joint index)) (slot_places (slot_at joint index)) (rule_at (rule_list joint) number)

pub known_goal : (joint : Joint) → IsJoint joint → (index : ℕ) (s : Slot) (listed : List Slot) → listed ≡ joint.slots → index < length listed → s ≡ get_or listed index s
    → (first rules : ℕ) → first ≡ length (flat_map slot_rules (take index joint.slots)) → rules ≡ length (slot_rules s) → KnownGoal joint index (first + rules - 1)
known_goal joint kept index s listed same h here first rules at many =
    let within : index < length joint.slots = subst (λ ss. index < length ss) same h in
    let is : s ≡ get_or joint.slots index s = here ∙ ap (λ ss. get_or ss index s) same in
    let fits = slot_fits joint kept index s within is in
    let goal = goal_there joint.slots index s first within is at in
    let number : first + length (slot_rules s) - 1 ≡ first + rules - 1 = omega arith in
    let rule : rule_at (rule_list joint) (first + rules - 1) ≡ s.world.goal = ap (rule_at (rule_list joint)) (sym number) ∙ goal.1 in
    let inside : IsWithin (slot_items s) (slot_places s) s.world.goal = subst (λ t. IsWithin (slot_items t) (slot_places t) t.world.goal) (sym is) (kept.each index s within).world.goal.within in
    record {
      fits = omega (arith, goal.0);
      is = rule ∙ ap (λ t. t.world.goal) (sym fits.there);
      places = subst (λ t. t.first_place + slot_places t ≤ place_total joint.slots) (sym fits.there) fits.places;
      items = subst (λ t. t.first_item + slot_items t ≤ item_total joint.slots) (sym fits.there) fits.items;
      within = subst (λ t. IsWithin (slot_items t) (slot_places t) (rule_at (rule_list joint) (first + rules - 1))) (sym fits.there) (subst (λ r. IsWithin (slot_items s) (slot_places s) r) (sym rule) inside);
    }

-- ---- slot by slot

module _ (joint : Joint) (index number : ℕ) (known : KnownGoal joint index number) (counts in_hand : List ℕ) (done reached : List Bool) (same_counts : counts ≡ in_hand) (same_places : done ≡ reached) where
  pub goal_judged : (answer : Bool) → answer ≡ holds (rule_at (rule_list joint) number) (λ i. bag_of counts ((slot_at joint index).first_item + i)) (λ p. places_of done ((slot_at joint index).first_place + p))
      → answer ≡ goal_holds (bag_of in_hand) (places_of reached) (slot_at joint index)
  goal_judged answer e =
      e
      ∙ ap (λ r. holds r (λ i. bag_of counts ((slot_at joint index).first_item + i)) (λ p. places_of done ((slot_at joint index).first_place + p))) known.is
      ∙ ap (λ cs. goal_holds (bag_of cs) (places_of done) (slot_at joint index)) same_counts
      ∙ ap (λ ds. goal_holds (bag_of in_hand) (places_of ds) (slot_at joint index)) same_places

-- the slot with this index comes first of those from it on
pub slot_here : (joint : Joint) (index : ℕ) → index < length joint.slots → drop index joint.slots ≡ slot_at joint index ∷ drop (suc index) joint.slots
slot_here joint index h = drop-cons joint.slots index no_slot h

module _ (joint : Joint) (index : ℕ) (h : index < length joint.slots) (bag : Bag) (w : Places) where
  pub next_met : goal_holds bag w (slot_at joint index) ≡ true → unmet_from (suc (index + 1)) (drop (index + 1) joint.slots) bag w ≡ unmet_from (suc index) (drop index joint.slots) bag w
  next_met e =
      let one : index + 1 ≡ suc index = omega arith in
      ap (λ n. unmet_from (suc n) (drop n joint.slots) bag w) one
      ∙ sym (ap (λ ss. unmet_from (suc index) ss bag w) (slot_here joint index h) ∙ met bag w (slot_at joint index) (suc index) (drop (suc index) joint.slots) e)

  pub next_unmet : goal_holds bag w (slot_at joint index) ≡ false → Some (index + 1) ≡ unmet_from (suc index) (drop index joint.slots) bag w
  next_unmet e =
      let one : index + 1 ≡ suc index = omega arith in
      ap Some one ∙ sym (ap (λ ss. unmet_from (suc index) ss bag w) (slot_here joint index h) ∙ unmet bag w (slot_at joint index) (suc index) (drop (suc index) joint.slots) e)
