-- Slots numbered one after the other.
use Rattle.std.proofs.Common.{◌≡◌, ℕ, ◌+◌, ◌<◌, ◌≤◌, length, get_or, ◌∙◌, List, [], ◌∷◌, ◌++◌, arith}
use Rattle.std.proofs.lemmas.List.Sums.{sum_by-cons}
use Rattle.std.specs.Prelude.{All}
use Rattle.std.proofs.lemmas.List.Elements.{All-nil, All-cons, All-weaker, All-same}
use Rattle.mw_multi.specs.Joint.{Slot, AreNumbered, place_total, item_total, slot_places, slot_items}

place_cons : (t : Slot) (slots : List Slot) → place_total (t ∷ slots) ≡ slot_places t + place_total slots
place_cons t slots = sum_by-cons slot_places t slots

item_cons : (t : Slot) (slots : List Slot) → item_total (t ∷ slots) ≡ slot_items t + item_total slots
item_cons t slots = sum_by-cons slot_items t slots

pub numbered_push : (place item : ℕ) (slots : List Slot) (s : Slot) → AreNumbered place item slots
    → s.first_place ≡ place + place_total slots → s.first_item ≡ item + item_total slots → AreNumbered place item (slots ++ s ∷ [])
numbered_push place item [] s before at_place at_item = (at_place ∙ omega arith, at_item ∙ omega arith, tt)
numbered_push place item (t ∷ slots) s before at_place at_item =
    (before.0, before.1, numbered_push (place + slot_places t) (item + slot_items t) slots s before.2 (at_place ∙ omega (arith, place_cons t slots)) (at_item ∙ omega (arith, item_cons t slots)))

-- the slot's numbers are among so many
pub record SlotFits (places items : ℕ) (s : Slot) : Type 0 where
  pub places_fit : s.first_place + slot_places s ≤ places
  pub items_fit : s.first_item + slot_items s ≤ items

fits_more : (places items more_places more_items : ℕ) (slots : List Slot) → places ≤ more_places → items ≤ more_items → All (SlotFits places items) slots → All (SlotFits more_places more_items) slots
fits_more places items more_places more_items slots p q fit =
    All-weaker (SlotFits places items) (SlotFits more_places more_items) (λ s f. record { places_fit = omega (arith, f.places_fit); items_fit = omega (arith, f.items_fit) }) slots fit

-- numbered slots fit
pub numbered_fit : (place item : ℕ) (slots : List Slot) → AreNumbered place item slots → All (SlotFits (place + place_total slots) (item + item_total slots)) slots
numbered_fit place item [] n = All-nil (SlotFits (place + place_total []) (item + item_total []))
numbered_fit place item (s ∷ slots) n =
    All-cons (SlotFits (place + place_total (s ∷ slots)) (item + item_total (s ∷ slots))) s slots
    (record { places_fit = omega (arith, n.0, place_cons s slots); items_fit = omega (arith, n.1, item_cons s slots) })
    (fits_more (place + slot_places s + place_total slots) (item + slot_items s + item_total slots) (place + place_total (s ∷ slots)) (item + item_total (s ∷ slots)) slots
    (omega (arith, place_cons s slots)) (omega (arith, item_cons s slots)) (numbered_fit (place + slot_places s) (item + slot_items s) slots n.2))

-- the slots of a joint fit
pub joint_fits : (slots : List Slot) → AreNumbered 0 0 slots → All (SlotFits (place_total slots) (item_total slots)) slots
joint_fits slots n = fits_more (0 + place_total slots) (0 + item_total slots) (place_total slots) (item_total slots) slots (omega arith) (omega arith) (numbered_fit 0 0 slots n)

-- the same of the slot at an index
pub slot_fits : (slots listed : List Slot) (i : ℕ) (s : Slot) → AreNumbered 0 0 slots → listed ≡ slots → i < length listed → s ≡ get_or listed i s → SlotFits (place_total slots) (item_total slots) s
slot_fits slots listed i s n same h is =
    let fit : SlotFits (place_total slots) (item_total slots) (get_or listed i s) = All-same (SlotFits (place_total slots) (item_total slots)) listed slots same (joint_fits slots n) i s h in
    rw is fit
