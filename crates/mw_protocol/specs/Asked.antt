-- The checks that a journal's records ask for.
use Rattle.std.specs.Prelude.{ℕ, ℤ, ◌==◌, ◌++◌, ◌∷◌, [], List, if◌then◌else◌}
use Rattle.mw_model.specs.Seed.{Seed, Held, is_owner}
use Rattle.mw_model.specs.Items.{NetItem}
use Rattle.mw_protocol.specs.Records.{Record, checks, release, collect, status, hint, hint_status, store}
use Rattle.mw_protocol.specs.Checks.{Check, checks_at, distinct, received_in, view_in}

-- the locations of a slot, by id
abbrev pub locations_among : ℕ → List Held → List ℤ
locations_among slot [] = []
locations_among slot (h ∷ hs) =
    if h.slot == slot then h.location ∷ locations_among slot hs else locations_among slot hs

abbrev pub locations_of : Seed → ℕ → List ℤ
locations_of seed slot = locations_among slot seed.locations

-- the locations that hold a slot's items, by finder, then id, each under its finder
abbrev pub held_for : Seed → ℕ → ℕ → List Held → List Check
held_for seed team slot [] = []
held_for seed team slot (h ∷ hs) =
    if is_owner seed h.receiver slot
    then record { team = team; slot = h.slot; location = h.location } ∷ held_for seed team slot hs
    else held_for seed team slot hs

-- a release asks for each location of the slot, a collect for each that holds an item of the slot
abbrev pub asked_by : Seed → Record → List Check
asked_by seed (checks team slot locations) = checks_at team slot locations
asked_by seed (release team slot) = checks_at team slot (locations_of seed slot)
asked_by seed (collect team slot) = held_for seed team slot seed.locations
asked_by seed (status team slot s) = []
asked_by seed (hint h) = []
asked_by seed (hint_status team finder location s) = []
asked_by seed (store key value) = []

-- Asked: the checks that the records ask for, in order
abbrev pub asked : Seed → List Record → List Check
asked seed [] = []
asked seed (r ∷ rs) = asked_by seed r ++ asked seed rs

-- Checked: the distinct checks, in journal order
abbrev pub checked : Seed → List Record → List Check
checked seed journal = distinct (asked seed journal)

-- Received, of a journal
abbrev pub received : Seed → ℕ → ℕ → List Record → List NetItem
received seed team slot journal = received_in seed team slot (checked seed journal)

-- View, of a journal
abbrev pub view : Seed → ℕ → ℕ → ℕ → List Record → List NetItem
view seed mask team slot journal = view_in seed mask team slot (checked seed journal)
