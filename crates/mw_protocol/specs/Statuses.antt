-- The statuses of slots.
use Rattle.std.specs.Prelude.{ℕ, ◌==◌, ◌&&◌, ◌∷◌, [], List, if◌then◌else◌}
use Rattle.mw_protocol.specs.Records.{Record, checks, release, collect, status, hint, hint_status, store}

pub record SlotStatus : Type 0 where
  pub team : ℕ
  pub slot : ℕ
  pub status : ℕ

-- the status of a slot in a team, 0 where none was given
abbrev pub status_of : List SlotStatus → ℕ → ℕ → ℕ
status_of [] team slot = 0
status_of (s ∷ ss) team slot =
    if (s.team == team) && (s.slot == slot) then s.status else status_of ss team slot

-- a slot's status set where one stands, or at the end
abbrev pub set_status : ℕ → ℕ → ℕ → List SlotStatus → List SlotStatus
set_status team slot number [] = record { team = team; slot = slot; status = number } ∷ []
set_status team slot number (s ∷ ss) =
    if (s.team == team) && (s.slot == slot)
    then record { team = s.team; slot = s.slot; status = number } ∷ ss
    else s ∷ set_status team slot number ss

abbrev pub stated : List SlotStatus → Record → List SlotStatus
stated ss (checks team slot locations) = ss
stated ss (release team slot) = ss
stated ss (collect team slot) = ss
stated ss (status team slot number) = set_status team slot number ss
stated ss (hint h) = ss
stated ss (hint_status team finder location number) = ss
stated ss (store key value) = ss

abbrev pub stated_all : List SlotStatus → List Record → List SlotStatus
stated_all ss [] = ss
stated_all ss (r ∷ rs) = stated_all (stated ss r) rs

-- Status: the last one that a journal gives each slot
abbrev pub statuses : List Record → List SlotStatus
statuses journal = stated_all [] journal
