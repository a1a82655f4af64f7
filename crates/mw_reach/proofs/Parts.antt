-- A slot's part of the counts and of the flags.
use Rattle.std.proofs.Common.{◌≡◌, ℕ, ◌+◌, ◌-◌, ◌<◌, ◌≤◌, Bool, false, List, get_or, length, take, drop, arith, refl, ◌∙◌, get_or-take, get_or-drop}
use Rattle.std.proofs.lemmas.List.{length-drop, length-take-le}
use Rattle.mw_rules.specs.Rule.{Rule, IsWithin}
use Rattle.mw_rules.specs.Holds.{bag_of, places_of, holds}
use Rattle.mw_rules.proofs.Naming.{holds-within}
use Rattle.mw_multi.specs.Joint.{Slot, slot_items, slot_places}

part_at : {X : Type 0} (xs : List X) (first n i : ℕ) (d : X) → i < n → get_or (take (first + n - first) (drop first xs)) i d ≡ get_or xs (first + i) d
part_at xs first n i d h = get_or-take (first + n - first) (drop first xs) i d (omega arith) ∙ get_or-drop first xs i d

part_length : {X : Type 0} (xs : List X) (first n : ℕ) → first + n ≤ length xs → length (take (first + n - first) (drop first xs)) ≡ n
part_length xs first n h = length-take-le (first + n - first) (drop first xs) (omega (arith, length-drop first xs)) ∙ omega arith

-- the part of a list from a number on
abbrev pub part : {X : Type 0} → List X → ℕ → ℕ → List X
part xs first n = take (first + n - first) (drop first xs)

module _ (slot : Slot) (counts : List ℕ) (done : List Bool) (first_item items first_place places : ℕ)
    (first_item_is : first_item ≡ slot.first_item) (items_is : items ≡ slot_items slot) (first_place_is : first_place ≡ slot.first_place) (places_is : places ≡ slot_places slot)
    (rule : Rule) (within : IsWithin (slot_items slot) (slot_places slot) rule) where
  pub within_parts : slot.first_item + slot_items slot ≤ length counts → slot.first_place + slot_places slot ≤ length done
      → IsWithin (length (part counts first_item items)) (length (part done first_place places)) rule
  within_parts h k = rw (part_length counts first_item items (omega arith), part_length done first_place places (omega arith), items_is, places_is) within

  pub holds-parts : holds rule (bag_of (part counts first_item items)) (places_of (part done first_place places))
      ≡ holds rule (λ i. bag_of counts (slot.first_item + i)) (λ p. places_of done (slot.first_place + p))
  holds-parts = holds-within rule (slot_items slot) (slot_places slot) _ _ _ _ within
      (λ i h. let inside : i < items = omega arith in part_at counts first_item items i 0 inside ∙ rw first_item_is refl)
      (λ p h. let inside : p < places = omega arith in part_at done first_place places p false inside ∙ rw first_place_is refl)
