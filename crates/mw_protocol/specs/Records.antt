-- What a journal records.
use Rattle.std.specs.Prelude.{ℕ, ℤ, List, Bool}
use Rattle.mw_model.specs.Json.{Json}

-- a hint of where a finder's location stands: whether its buyer paid, and its status
pub record Hint : Type 0 where
  pub team : ℕ
  pub finder : ℕ
  pub location : ℤ
  pub bought : Bool
  pub buyer : ℕ
  pub status : ℕ

pub data Record : Type 0 where
  -- a slot of a team checked these locations of its own
  checks : ℕ → ℕ → List ℤ → Record
  -- a slot of a team gave all that its world holds
  release : ℕ → ℕ → Record
  -- a slot of a team got all that other worlds hold for it
  collect : ℕ → ℕ → Record
  -- a slot of a team has this status
  status : ℕ → ℕ → ℕ → Record
  -- a hint is made
  hint : Hint → Record
  -- the hint of a team, a finder and a location has this status
  hint_status : ℕ → ℕ → ℤ → ℕ → Record
  -- a key of the data storage holds this value
  store : List ℕ → Json → Record
