-- Locations that a client of a slot names by their numbers.
use Rattle.std.specs.Prelude.{ℕ, ℤ, ◌++◌, ◌∷◌, [], List, Option, Some, None, is_some, filter}
use Rattle.mw_model.specs.Items.{NetItem}
use Rattle.mw_model.specs.Seed.{Seed, Held, held_at}
use Rattle.mw_protocol.specs.Checks.{Check, checks_at, unseen, distinct}

abbrev pub location_of : Check → ℤ
location_of c = c.location

-- those of the numbers that are locations of the slot
abbrev pub known : Seed → ℕ → List ℤ → List ℤ
known seed slot numbers = filter (λ l. is_some (held_at seed slot l)) numbers

-- the known locations, each once, in order, as checks in a team
abbrev pub known_checks : Seed → ℕ → ℕ → List ℤ → List Check
known_checks seed team slot numbers = distinct (checks_at team slot (known seed slot numbers))

-- the known locations that aren't among the checked ones, each once, in order
abbrev pub new_checks : Seed → List Check → ℕ → ℕ → List ℤ → List Check
new_checks seed checked team slot numbers =
    unseen checked (checks_at team slot (known seed slot numbers))

-- an item beside its receiver
abbrev pub scouted_item : Option Held → List NetItem
scouted_item None = []
scouted_item (Some h) =
    record { item = h.item; location = h.location; player = h.receiver; flags = h.flags } ∷ []

abbrev pub scouted_at : Seed → ℕ → List Check → List NetItem
scouted_at seed slot [] = []
scouted_at seed slot (c ∷ cs) =
    scouted_item (held_at seed slot c.location) ++ scouted_at seed slot cs

-- what stands at the known locations, each once, in order
abbrev pub scouted : Seed → ℕ → ℕ → List ℤ → List NetItem
scouted seed team slot numbers = scouted_at seed slot (known_checks seed team slot numbers)
