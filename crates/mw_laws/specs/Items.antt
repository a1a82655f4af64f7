-- An item is received once, by each owner of its receiver.
use Rattle.std.specs.Prelude.{◌≡◌, ℕ, ◌==◌, ◌&&◌, ◌++◌, List, Bool, true, false, not, Option, Some, None, filter, AllPairs, IsFalse}
use Rattle.mw_model.specs.Items.{NetItem}
use Rattle.mw_model.specs.Seed.{Seed, Held, held_at, is_owner, slot_of}
use Rattle.mw_protocol.specs.Asked.{checked, received}
use Rattle.mw_protocol.specs.Checks.{Check, same_check, start_items, items_found}
use Rattle.mw_protocol.specs.Records.{Record}

-- the items that a slot found or was sent, which are all that it received after its starting items
abbrev pub found : Seed → ℕ → ℕ → List Record → List NetItem
found seed team slot journal = items_found seed team slot (checked seed journal)

abbrev pub IsElsewhere : NetItem → NetItem → Type 0
IsElsewhere a b = (a.player ≡ b.player) × (a.location ≡ b.location) → ⊥

abbrev pub AreDifferent : Check → Check → Type 0
AreDifferent a b = IsFalse (same_check a b)

-- no check stands twice among a journal's, so no two items that a slot received after its starting items are from one location of one player, whatever was checked, released or collected
pub record NoItemTwice (seed : Seed) (journal : List Record) : Type 0 where
  pub checks : AllPairs AreDifferent (checked seed journal)
  pub items : (team slot : ℕ) → AllPairs IsElsewhere (found seed team slot journal)
  pub received : (team slot : ℕ)
      → received seed team slot journal
      ≡ start_items (slot_of seed slot) ++ found seed team slot journal

-- whether what stands at a location is for this receiver
abbrev pub is_held_for : ℕ → Option Held → Bool
is_held_for receiver None = false
is_held_for receiver (Some h) = h.receiver == receiver

-- whether an item is of a location that holds something for this receiver; a starting item is of none
abbrev pub came_for : Seed → ℕ → NetItem → Bool
came_for seed receiver item =
    not (item.player == 0) && is_held_for receiver (held_at seed item.player item.location)

-- of what two owners of a receiver got, that which came for the receiver is the same in the same order; so each member of a group gets each of the group's items
abbrev pub OwnersShare : Type 0
OwnersShare = (seed : Seed) (journal : List Record) (team receiver a b : ℕ)
    → is_owner seed receiver a ≡ true → is_owner seed receiver b ≡ true
    → filter (came_for seed receiver) (received seed team a journal)
    ≡ filter (came_for seed receiver) (received seed team b journal)

-- so it is for every journal, and so for each that a room's turns record
abbrev pub ItemsComeOnce : Type 0
ItemsComeOnce = (seed : Seed) (journal : List Record) → NoItemTwice seed journal
