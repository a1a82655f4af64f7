-- What records hold.
use Rattle.std.specs.Prelude.{ℕ, ℤ, List}
use Rattle.mw_model.specs.Json.{Json}

pub record CheckedLocations : Type 0 where
  pub team : ℕ
  pub slot : ℕ
  pub locations : List ℤ

-- a key of the data storage, and what it holds
pub record Stored : Type 0 where
  pub key : List ℕ
  pub value : Json
