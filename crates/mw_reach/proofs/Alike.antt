-- Bags that have as many of each progression item come to the same, since rules ask for no other.
use Rattle.std.proofs.Common.{◌≡◌, ℕ, suc, ◌+◌, true, eqb, List, [], ◌∷◌, ◌++◌, Some, get_or, map, All, refl, sym, ap, ap₂, subst, ◌∙◌, inl, inr, arith}
use Rattle.std.specs.Prelude.{◌&&◌, flat_map, slice_get, if◌then◌else◌}
use Rattle.std.proofs.lemmas.Bool.{false≢true, or_cases, eqb-true}
use Rattle.std.proofs.lemmas.List.Concat.{flat_map-cons}
use Rattle.std.proofs.lemmas.List.Elements.{All-nil, All-cons, All-append, All-map}
use Rattle.mw_rules.specs.Rule.{Rule}
use Rattle.mw_rules.specs.Names.{is_among, items_in, names_item}
use Rattle.mw_rules.specs.Holds.{Bag, Places}
use Rattle.mw_rules.proofs.Naming.{hangs_on_names}
use Rattle.mw_multi.specs.World.{Location, place_count}
use Rattle.mw_multi.specs.RulesKept.{is_progression_item, IsProgressionAt, RuleKept}
use Rattle.mw_multi.specs.WorldKept.{IsWorld, LocationKept}
use Rattle.mw_multi.specs.Joint.{Slot, Joint, SlotKept, IsJoint}
use Rattle.mw_multi.specs.Steps.{Step, entrance_step, location_step, location_steps, origin_step, slot_steps, steps_of}
use Rattle.mw_reach.specs.Reach.{Placed, found, bag_with, starts_in, is_open, Closed, IsLeast}
use Rattle.mw_reach.specs.Goals.{goal_holds, unmet_from, unmet_goal}
use Rattle.mw_reach.specs.Required.{missed_location, or_location, first_lack}

-- as many of each progression item of the slot
abbrev pub SlotAlike : Bag → Bag → Slot → Type 0
SlotAlike a b s = (i : ℕ) → is_progression_item (slice_get s.world.items i) ≡ true → a (s.first_item + i) ≡ b (s.first_item + i)

-- as many of each item that the step's rule names
abbrev StepAlike : Bag → Bag → Step → Type 0
StepAlike a b step = (i : ℕ) → names_item step.rule i ≡ true → a (step.first_item + i) ≡ b (step.first_item + i)

among_all : (P : ℕ → Type 0) (ns : List ℕ) → All P ns → (n : ℕ) → is_among ns n ≡ true → P n
among_all P [] all n e = absurd (false≢true e)
among_all P (m ∷ ns) all n e = elim (or_cases (eqb m n) (is_among ns n) e) [
  | inl same ↦ subst P (eqb-true m n same) (all 0 m (omega arith))
  | inr later ↦ among_all P ns (λ k d l. all (suc k) d (omega (arith, l))) n later
]

-- ---- a slot's steps and its goal

module _ (a b : Bag) (s : Slot) (alike : SlotAlike a b s) where
  rule_alike : (places : ℕ) (rule : Rule) → RuleKept s.world.items places rule → (i : ℕ) → names_item rule i ≡ true → a (s.first_item + i) ≡ b (s.first_item + i)
  rule_alike places rule kept i e = alike i (among_all (IsProgressionAt s.world.items) (items_in rule) kept.progression i e)

  module _ (kept : IsWorld s.world) where
    locations_alike : (n : ℕ) (ls : List Location) → All (LocationKept s.world) ls → All (StepAlike a b) (location_steps s n ls)
    locations_alike n [] all = All-nil (StepAlike a b)
    locations_alike n (l ∷ ls) all =
        All-cons (StepAlike a b) (location_step s n l) (location_steps s (suc n) ls) (rule_alike (place_count s.world) l.rule (all 0 l (omega arith)).rule)
        (locations_alike (suc n) ls (λ k d h. all (suc k) d (omega (arith, h))))

    slot_alike : All (StepAlike a b) (slot_steps s)
    slot_alike =
        All-cons (StepAlike a b) (origin_step s) (map (entrance_step s) s.world.entrances ++ location_steps s 0 s.world.locations) (λ i e. absurd (false≢true e))
        (All-append (StepAlike a b) (map (entrance_step s) s.world.entrances) (location_steps s 0 s.world.locations)
        (All-map (StepAlike a b) (entrance_step s) s.world.entrances (λ k d h. rule_alike (place_count s.world) (get_or s.world.entrances k d).rule (kept.entrances.each k d h).rule))
        (locations_alike 0 s.world.locations kept.locations.each))

    goal_alike : (placed : Placed) (w : Places) → goal_holds (bag_with a placed w) w s ≡ goal_holds (bag_with b placed w) w s
    goal_alike placed w =
        hangs_on_names s.world.goal _ _ _ _ (λ i e. ap (λ n. n + found placed w (s.first_item + i)) (rule_alike (place_count s.world) s.world.goal kept.goal i e)) (λ p e. refl)

steps_alike : (a b : Bag) (slots : List Slot) → All SlotKept slots → All (SlotAlike a b) slots → All (StepAlike a b) (flat_map slot_steps slots)
steps_alike a b [] kept alike = All-nil (StepAlike a b)
steps_alike a b (s ∷ slots) kept alike =
    subst (All (StepAlike a b)) (sym (flat_map-cons slot_steps s slots))
    (All-append (StepAlike a b) (slot_steps s) (flat_map slot_steps slots) (slot_alike a b s (alike 0 s (omega arith)) (kept 0 s (omega arith)).world)
    (steps_alike a b slots (λ k d h. kept (suc k) d (omega (arith, h))) (λ k d h. alike (suc k) d (omega (arith, h)))))

-- ---- what is closed and what is least

Closed-alike : (a b : Bag) (steps : List Step) (placed : Placed) (w : Places) → All (StepAlike a b) steps → Closed steps a placed w → Closed steps b placed w
Closed-alike a b [] placed w alike c = tt
Closed-alike a b (step ∷ steps) placed w alike c =
    let same : is_open step (bag_with a placed w) w ≡ is_open step (bag_with b placed w) w =
    ap (λ h. starts_in step.from w && h) (hangs_on_names step.rule _ _ _ _ (λ i e. ap (λ n. n + found placed w (step.first_item + i)) (alike 0 step (omega arith) i e)) (λ p e. refl)) in
    (λ o. c.0 (same ∙ o), Closed-alike a b steps placed w (λ k d h. alike (suc k) d (omega (arith, h))) c.1)

pub least_alike : (joint : Joint) → IsJoint joint → (a b : Bag) → All (SlotAlike a b) joint.slots → (placed : Placed) (w : Places) → IsLeast (steps_of joint) a placed w → IsLeast (steps_of joint) b placed w
least_alike joint kept a b alike placed w l =
    let there : All (StepAlike a b) (steps_of joint) = steps_alike a b joint.slots kept.each alike in
    record {
      closed = Closed-alike a b (steps_of joint) placed w there l.closed;
      least = λ v c. l.least v (Closed-alike b a (steps_of joint) placed v (λ k d h i e. sym (there k d h i e)) c);
    }

-- ---- which goals hold

unmet_alike : (number : ℕ) (slots : List Slot) (a b : Bag) (placed : Placed) (w : Places) → All SlotKept slots → All (SlotAlike a b) slots → unmet_from number slots (bag_with a placed w) w ≡ unmet_from number slots (bag_with b placed w) w
unmet_alike number [] a b placed w kept alike = refl
unmet_alike number (s ∷ slots) a b placed w kept alike =
    ap₂ (λ t rest. if t then rest else Some number) (goal_alike a b s (alike 0 s (omega arith)) (kept 0 s (omega arith)).world placed w)
    (unmet_alike (suc number) slots a b placed w (λ k d h. kept (suc k) d (omega (arith, h))) (λ k d h. alike (suc k) d (omega (arith, h))))

pub goals_alike : (joint : Joint) → IsJoint joint → (a b : Bag) → All (SlotAlike a b) joint.slots → (placed : Placed) (w : Places) → unmet_goal joint (bag_with a placed w) w ≡ unmet_goal joint (bag_with b placed w) w
goals_alike joint kept a b alike placed w = unmet_alike 1 joint.slots a b placed w kept.each alike

-- ---- what is lacking

pub lack_alike : (joint : Joint) → IsJoint joint → (a b : Bag) → All (SlotAlike a b) joint.slots → (placed : Placed) (w : Places) → first_lack joint (bag_with a placed w) w ≡ first_lack joint (bag_with b placed w) w
lack_alike joint kept a b alike placed w = ap (λ u. or_location u (missed_location joint w)) (goals_alike joint kept a b alike placed w)
