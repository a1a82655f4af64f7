-- What a journal's records come to: one step a record.
use Rattle.std.specs.Prelude.{ℕ, ℤ, ◌-◌, ◌*◌, ◌/◌, ◌++◌, ◌∷◌, [], List, length, max}
use Rattle.mw_model.specs.Seed.{Seed}
use Rattle.mw_protocol.specs.Asked.{asked_by, locations_of}
use Rattle.mw_protocol.specs.Checks.{Check, CheckedAt, is_among, unseen, locations_in}
use Rattle.mw_protocol.specs.HintList.{hinted, bought_by}
use Rattle.mw_protocol.specs.Records.{Record, Hint}
use Rattle.mw_protocol.specs.Statuses.{SlotStatus, stated, status_of}
use Rattle.mw_protocol.specs.Storage.{Kept, stored}

-- the distinct checks in journal order, the status of each slot that has one, the hints in the order in which they were made, and the data storage
pub record Standing : Type 0 where
  pub checked : List Check
  pub statuses : List SlotStatus
  pub hints : List Hint
  pub storage : List Kept

abbrev pub step : Seed → Standing → Record → Standing
step seed s r = record {
  checked = s.checked ++ unseen s.checked (asked_by seed r);
  statuses = stated s.statuses r;
  hints = hinted s.hints r;
  storage = stored s.storage r;
}

abbrev pub steps : Seed → Standing → List Record → Standing
steps seed s [] = s
steps seed s (r ∷ rs) = steps seed (step seed s r) rs

abbrev pub start : Standing
start = record { checked = []; statuses = []; hints = []; storage = [] }

-- the standing of a journal
abbrev pub standing : Seed → List Record → Standing
standing seed journal = steps seed start journal

-- ---- what a standing says of a slot

abbrev pub is_checked : Standing → CheckedAt
is_checked s = is_among s.checked

-- the checked locations of a slot, in journal order
abbrev pub checked_of : Standing → ℕ → ℕ → List ℤ
checked_of s team slot = locations_in team slot s.checked

-- its status, 0 where none was given
abbrev pub status_in : Standing → ℕ → ℕ → ℕ
status_in s team slot = status_of s.statuses team slot

-- ---- points

-- what a hint costs: so many hundredths of the slot's locations, and at least 1
abbrev pub cost : Seed → ℕ → ℕ
cost seed slot = max 1 (seed.server.hint_cost * length (locations_of seed slot) / 100)

-- what so many checked locations of a slot are worth, less what its hints cost
abbrev pub points_left : Seed → ℕ → List Hint → ℕ → ℕ → ℕ
points_left seed count hints team slot =
    seed.server.location_check_points * count - cost seed slot * length (bought_by hints team slot)

-- Points: of a slot's checked locations, less what its hints cost
abbrev pub points : Seed → Standing → ℕ → ℕ → ℕ
points seed s team slot = points_left seed (length (checked_of s team slot)) s.hints team slot
