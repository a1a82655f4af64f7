-- A players file as plain data.
use Rattle.std.specs.Prelude.{ℕ, List}
use Rattle.mw_model.specs.Seed.{RoomOptions}
use Rattle.mw_multi.specs.declared.access.Access.{Access}

-- so many of an item to begin with
pub record StartEntry : Type 0 where
  pub name : List ℕ
  pub count : ℕ

-- a player's wishes, in the names of items and of locations
pub record Options : Type 0 where
  pub local_items : List (List ℕ)
  pub non_local_items : List (List ℕ)
  pub exclude_locations : List (List ℕ)
  pub priority_locations : List (List ℕ)
  pub start_inventory : List StartEntry
  pub accessibility : Access

-- a slot: its name in each team, its world's file, its options
pub record Player : Type 0 where
  pub names : List (List ℕ)
  pub world : List ℕ
  pub options : Options

-- items that some slots share, by name
pub record ItemLink : Type 0 where
  pub name : List ℕ
  pub members : List ℕ
  pub items : List (List ℕ)

-- the first player has slot 1, and the first link the number after the last slot
pub record Players : Type 0 where
  pub teams : ℕ
  pub room : RoomOptions
  pub players : List Player
  pub links : List ItemLink
