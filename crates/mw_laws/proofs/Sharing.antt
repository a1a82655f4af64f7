-- What came for a receiver is the same for each of its owners.
use Rattle.std.proofs.Common.{◌≡◌, ℕ, ◌==◌, ◌&&◌, List, Bool, true, false, cond, ◌∷◌, [], ◌++◌, not, map, Option, Some, None, refl, sym, ap, ap₂, ◌∙◌, eqb-true}
use Rattle.std.specs.List.{filter}
use Rattle.std.proofs.lemmas.List.Elements.{filter-append}
use Rattle.mw_model.specs.Items.{NetItem}
use Rattle.mw_model.specs.Seed.{Seed, StartItem, Slot, Held, held_at, held_among, is_owner, slot_of}
use Rattle.mw_protocol.specs.Asked.{checked, received}
use Rattle.mw_protocol.specs.Checks.{Check, found_item, item_for, items_found, start_item, start_items}
use Rattle.mw_protocol.specs.Records.{Record}
use Rattle.mw_laws.specs.Items.{OwnersShare, came_for, is_held_for}
use Rattle.mw_laws.proofs.Once.{held_place}

module _ (seed : Seed) (team receiver a b : ℕ) (owns_a : is_owner seed receiver a ≡ true) (owns_b : is_owner seed receiver b ≡ true) where
  -- what isn't for the receiver is left out, whoever gets it
  left_out : (item : NetItem) (gets : Bool) → came_for seed receiver item ≡ false → filter (came_for seed receiver) (cond gets (item ∷ []) []) ≡ []
  left_out item true h = ap (λ (x : Bool). cond x (item ∷ []) []) h
  left_out item false h = refl

  started : (is : List StartItem) → filter (came_for seed receiver) (map start_item is) ≡ []
  started [] = refl
  started (i ∷ is) = started is

  starts : (slot : Option Slot) → filter (came_for seed receiver) (start_items slot) ≡ []
  starts None = refl
  starts (Some slot) = started slot.start

  one : (c : Check) (o : Option Held) → ((h : Held) → o ≡ Some h → held_at seed h.slot h.location ≡ Some h)
      → filter (came_for seed receiver) (item_for seed team a c o) ≡ filter (came_for seed receiver) (item_for seed team b c o)
  one c None place = refl
  one c (Some h) place =
      (elim (h.receiver == receiver) as (λ x. (h.receiver == receiver) ≡ x → filter (came_for seed receiver) (item_for seed team a c (Some h)) ≡ filter (came_for seed receiver) (item_for seed team b c (Some h))) [
        | true ↦ (λ is.
            let same : h.receiver ≡ receiver = eqb-true h.receiver receiver is in
            let both : is_owner seed h.receiver a ≡ is_owner seed h.receiver b = ap (λ r. is_owner seed r a) same ∙ owns_a ∙ sym owns_b ∙ ap (λ r. is_owner seed r b) (sym same) in
            ap (λ (x : Bool). filter (came_for seed receiver) (cond ((c.team == team) && x) (found_item h ∷ []) [])) both)
        | false ↦ (λ is.
            let none : came_for seed receiver (found_item h) ≡ false =
            ap (λ (o : Option Held). not (h.slot == 0) && is_held_for receiver o) (place h refl) ∙ ap (λ (x : Bool). not (h.slot == 0) && x) is ∙ never (not (h.slot == 0)) in
            left_out (found_item h) ((c.team == team) && is_owner seed h.receiver a) none
            ∙ sym (left_out (found_item h) ((c.team == team) && is_owner seed h.receiver b) none))
      ]) refl
    where
      never : (x : Bool) → (x && false) ≡ false
      never true = refl
      never false = refl

  all : (cs : List Check) → filter (came_for seed receiver) (items_found seed team a cs) ≡ filter (came_for seed receiver) (items_found seed team b cs)
  all [] = refl
  all (c ∷ cs) =
      let o = held_at seed c.slot c.location in
      let place : (h : Held) → o ≡ Some h → held_at seed h.slot h.location ≡ Some h =
      λ h is. let at = held_place seed.locations c.slot c.location h is in ap₂ (held_among seed.locations) at.0 at.1 ∙ is in
      filter-append (came_for seed receiver) (item_for seed team a c o) (items_found seed team a cs)
      ∙ ap₂ (λ (xs ys : List NetItem). xs ++ ys) (one c o place) (all cs)
      ∙ sym (filter-append (came_for seed receiver) (item_for seed team b c o) (items_found seed team b cs))

  pub shared : (journal : List Record) → filter (came_for seed receiver) (received seed team a journal) ≡ filter (came_for seed receiver) (received seed team b journal)
  shared journal =
      filter-append (came_for seed receiver) (start_items (slot_of seed a)) (items_found seed team a (checked seed journal))
      ∙ ap₂ (λ (xs ys : List NetItem). xs ++ ys) (starts (slot_of seed a) ∙ sym (starts (slot_of seed b))) (all (checked seed journal))
      ∙ sym (filter-append (came_for seed receiver) (start_items (slot_of seed b)) (items_found seed team b (checked seed journal)))

pub owners_share : OwnersShare
owners_share seed journal team receiver a b owns_a owns_b = shared seed team receiver a b owns_a owns_b journal
