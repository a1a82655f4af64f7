-- The entrances and locations of a slot, one by one.
use Rattle.std.proofs.Common.{◌≡◌, ℕ, zero, suc, ◌+◌, ◌*◌, ◌<◌, ◌≤◌, All, List, [], ◌∷◌, ◌++◌, length, get_or, map, take, sym, ap, subst, ◌∙◌, arith}
use Rattle.std.specs.Prelude.{flat_map}
use Rattle.std.proofs.lemmas.List.{length-map, length-append, append_assoc, append-nil, get_or-map, get_or_append_left, get_or-append-add, get_or_read, take_more, length-take-le}
use Rattle.std.proofs.lemmas.List.Concat.{flat_map-append, get_or-flat_map}
use Rattle.std.proofs.lemmas.List.Folds.{length-flat_map-take}
use Rattle.std.proofs.lemmas.List.Sums.{sum_by-cons}
use Rattle.mw_rules.specs.Rule.{Rule, never, IsWithin}
use Rattle.mw_rules.specs.Ruling.{rule_at}
use Rattle.mw_multi.specs.Joint.{Joint, Slot, AreNumbered, SlotKept, IsJoint, slot_items, slot_places, place_total, item_total}
use Rattle.mw_multi.specs.Steps.{Step, rule_list, entrance_rule, location_rule, slot_rules, location_step, location_steps}
use Rattle.mw_multi.specs.World.{Entrance, Location}
use Rattle.mw_multi.specs.WorldKept.{IsWorld, EntranceKept, LocationKept}
use Rattle.mw_reach.specs.Building.{SlotFits, HasRules}
use Rattle.mw_reach.specs.Rows.{no_slot, slot_at, StartFits}

module _ (joint : Joint) (index : ℕ) (slot : Slot) (s : SlotFits joint index slot) (kept : IsWorld slot.world) (first_rule : ℕ) where
  abbrev rules : List Rule
  rules = rule_list joint

  start_fits : (from region k : ℕ) (rule : Rule) → from ≡ slot.first_place + region → region < length slot.world.regions
      → first_rule + k < length rules → rule_at rules (first_rule + k) ≡ rule → IsWithin (slot_items slot) (slot_places slot) rule
      → StartFits rules slot (place_total joint.slots) record { from = from; rule = first_rule + k }
  start_fits from region k rule from_is within number is fits = record {
    from_fits = omega (arith, s.places);
    number_fits = number;
    rule_fits = rw is fits;
  }

  module _ (has : HasRules rules first_rule (map entrance_rule slot.world.entrances)) (i : ℕ) (e : Entrance) (h : i < length slot.world.entrances) (is : e ≡ get_or slot.world.entrances i e) where
    entrance_kept : EntranceKept slot.world e
    entrance_kept = subst (EntranceKept slot.world) (sym is) (kept.entrances.each i e h)

    rule_here : (first_rule + i < length rules) × (rule_at rules (first_rule + i) ≡ rule_at (map entrance_rule slot.world.entrances) i)
    rule_here = has i (omega (arith, length-map slot.world.entrances entrance_rule))

    pub entrance_rule_is : rule_at rules (first_rule + i) ≡ e.rule
    entrance_rule_is = rule_here.1 ∙ get_or-map entrance_rule slot.world.entrances i e never h ∙ ap entrance_rule (sym is)

    pub entrance_start_fits : (from : ℕ) → from ≡ slot.first_place + e.from → StartFits rules slot (place_total joint.slots) record { from = from; rule = first_rule + i }
    entrance_start_fits from from_is = start_fits from e.from i e.rule from_is entrance_kept.starts rule_here.0 entrance_rule_is entrance_kept.rule.within

  module _ (has : HasRules rules first_rule (map location_rule slot.world.locations)) (i : ℕ) (l : Location) (h : i < length slot.world.locations) (is : l ≡ get_or slot.world.locations i l) where
    location_kept : LocationKept slot.world l
    location_kept = subst (LocationKept slot.world) (sym is) (kept.locations.each i l h)

    location_here : (first_rule + i < length rules) × (rule_at rules (first_rule + i) ≡ rule_at (map location_rule slot.world.locations) i)
    location_here = has i (omega (arith, length-map slot.world.locations location_rule))

    pub location_rule_is : rule_at rules (first_rule + i) ≡ l.rule
    location_rule_is = location_here.1 ∙ get_or-map location_rule slot.world.locations i l never h ∙ ap location_rule (sym is)

    pub location_start_fits : (from : ℕ) → from ≡ slot.first_place + l.region → StartFits rules slot (place_total joint.slots) record { from = from; rule = first_rule + i }
    location_start_fits from from_is = start_fits from l.region i l.rule from_is location_kept.region location_here.0 location_rule_is location_kept.rule.within

-- one step more
location_steps_push : (slot : Slot) (n : ℕ) (ls : List Location) (l : Location) → location_steps slot n (ls ++ l ∷ []) ≡ location_steps slot n ls ++ location_step slot (n + length ls) l ∷ []
location_steps_push slot n [] l = ap (λ k. location_step slot k l ∷ []) (omega arith)
location_steps_push slot n (m ∷ ls) l =
    let next : suc n + length ls ≡ n + suc (length ls) = omega arith in
    ap (λ ss. location_step slot n m ∷ ss) (location_steps_push slot (suc n) ls l ∙ ap (λ k. location_steps slot (suc n) ls ++ location_step slot k l ∷ []) next)

pub locations_more : (slot : Slot) (front : List Step) (ls : List Location) (i : ℕ) (l : Location) → i < length ls → l ≡ get_or ls i l
    → (front ++ location_steps slot 0 (take i ls)) ++ location_step slot i l ∷ [] ≡ front ++ location_steps slot 0 (take (i + 1) ls)
locations_more slot front ls i l h is =
    let long : 0 + length (take i ls) ≡ i = omega (arith, length-take-le i ls (omega arith)) in
    append_assoc front (location_steps slot 0 (take i ls)) (location_step slot i l ∷ [])
    ∙ ap (λ ss. front ++ ss) (sym (ap (location_steps slot 0) (take_more ls i l h) ∙ location_steps_push slot 0 (take i ls) (get_or ls i l)
    ∙ ap (λ k. location_steps slot 0 (take i ls) ++ location_step slot k (get_or ls i l) ∷ []) long
    ∙ ap (λ x. location_steps slot 0 (take i ls) ++ location_step slot i x ∷ []) (sym is)))

-- ---- rules by number

pub rules_front : (rules : List Rule) (first : ℕ) (xs ys : List Rule) → HasRules rules first (xs ++ ys) → HasRules rules first xs
rules_front rules first xs ys has k h =
    let here = has k (omega (arith, length-append xs ys)) in
    (here.0, here.1 ∙ get_or_append_left xs ys never k h)

pub rules_back : (rules : List Rule) (first : ℕ) (xs ys : List Rule) → HasRules rules first (xs ++ ys) → HasRules rules (first + length xs) ys
rules_back rules first xs ys has k h =
    let here = has (length xs + k) (omega (arith, length-append xs ys)) in
    let at : first + (length xs + k) ≡ first + length xs + k = omega arith in
    (omega (arith, here.0), ap (rule_at rules) (sym at) ∙ here.1 ∙ get_or-append-add xs ys k never)

pub slot_rules_there : (slots : List Slot) (i : ℕ) (d : Slot) → i < length slots → HasRules (flat_map slot_rules slots) (length (flat_map slot_rules (take i slots))) (slot_rules (get_or slots i d))
slot_rules_there slots i d h k l =
    let front = length-flat_map-take slot_rules slots i d h in
    (omega arith, get_or-flat_map slot_rules slots i k d never h l)

-- ---- totals

places_before : (place item : ℕ) (slots : List Slot) (i : ℕ) (d : Slot) → AreNumbered place item slots → i < length slots → (get_or slots i d).first_place + slot_places (get_or slots i d) ≤ place + place_total slots
places_before place item [] i d a h = absurd (omega arith)
places_before place item (s ∷ slots) zero d a h = omega (arith, a.0, sum_by-cons slot_places s slots)
places_before place item (s ∷ slots) (suc i) d a h = omega (arith, sum_by-cons slot_places s slots, places_before (place + slot_places s) (item + slot_items s) slots i d a.2 (omega arith))

pub items_before : (place item : ℕ) (slots : List Slot) (i : ℕ) (d : Slot) → AreNumbered place item slots → i < length slots → (get_or slots i d).first_item + slot_items (get_or slots i d) ≤ item + item_total slots
items_before place item [] i d a h = absurd (omega arith)
items_before place item (s ∷ slots) zero d a h = omega (arith, a.1, sum_by-cons slot_items s slots)
items_before place item (s ∷ slots) (suc i) d a h = omega (arith, sum_by-cons slot_items s slots, items_before (place + slot_places s) (item + slot_items s) slots i d a.2 (omega arith))

few_items : (slots : List Slot) → All SlotKept slots → item_total slots ≤ 10000 * length slots
few_items [] k = omega arith
few_items (s ∷ slots) k = omega (arith, sum_by-cons slot_items s slots, (k 0 s (omega arith)).world.items.count, few_items slots (λ i d h. k (suc i) d (omega arith)))

-- a joint's slot with an index
pub slot_fits : (joint : Joint) → IsJoint joint → (i : ℕ) (slot : Slot) → i < length joint.slots → slot ≡ get_or joint.slots i slot → SlotFits joint i slot
slot_fits joint kept i slot h is =
    let there : slot_at joint i ≡ slot = sym (get_or_read joint.slots i slot h is no_slot) in
    record {
      within = h;
      there = there;
      places = rw (← there) (omega (arith, places_before 0 0 joint.slots i no_slot kept.numbered h));
      items = rw (← there) (omega (arith, items_before 0 0 joint.slots i no_slot kept.numbered h));
      few_places = omega (arith, kept.places);
      few_items = omega (arith, kept.few, few_items joint.slots kept.each);
    }

-- what the first slots give, and one slot more
pub flat_more : {A : Type 0} (f : Slot → List A) (slots : List Slot) (i : ℕ) (slot : Slot) → i < length slots → slot ≡ get_or slots i slot → flat_map f (take i slots) ++ f slot ≡ flat_map f (take (i + 1) slots)
flat_more f slots i slot h is =
    ap (λ s. flat_map f (take i slots) ++ f s) is
    ∙ sym (ap (flat_map f) (take_more slots i slot h) ∙ flat_map-append f (take i slots) (get_or slots i slot ∷ []) ∙ ap (λ xs. flat_map f (take i slots) ++ xs) (append-nil (f (get_or slots i slot))))
