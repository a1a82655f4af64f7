-- A world's tables as plain data. A region or an item is its index from 0 in its world's list; a place in a rule
-- counts the regions and then the locations, from 0.
use Rattle.std.specs.Prelude.{ℕ, ℤ, ◌+◌, List, Option, length}
use Rattle.mw_rules.specs.Rule.{Rule}
use Rattle.mw_multi.specs.declared.item.Class.{Class}
use Rattle.mw_multi.specs.declared.location.LocKind.{LocKind}

-- a way from region to region, for those who meet its rule
pub record Entrance : Type 0 where
  pub name : List ℕ
  pub from : ℕ
  pub to : ℕ
  pub rule : Rule

-- a location with an id, or an event location with its event
pub record Location : Type 0 where
  pub name : List ℕ
  pub id : Option ℤ
  pub region : ℕ
  pub kind : LocKind
  pub rule : Rule
  pub event : Option ℕ

-- an item with an id, or an event
pub record Item : Type 0 where
  pub name : List ℕ
  pub id : Option ℤ
  pub class : Class

-- so many copies of an item
pub record PoolEntry : Type 0 where
  pub item : ℕ
  pub count : ℕ

pub record World : Type 0 where
  pub game : List ℕ
  pub origin : ℕ
  pub regions : List (List ℕ)
  pub entrances : List Entrance
  pub locations : List Location
  pub items : List Item
  pub pool : List PoolEntry
  pub filler : ℕ
  pub goal : Rule

-- how many places a world has
abbrev pub place_count : World → ℕ
place_count w = length w.regions + length w.locations
