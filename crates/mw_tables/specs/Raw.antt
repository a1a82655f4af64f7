-- A world's tables as they are written: regions, items and locations by their names.
use Rattle.std.specs.Prelude.{ℕ, ℤ, suc, max, ◌+◌, List, [], ◌∷◌, Option}
use Rattle.mw_multi.specs.World.{Item}
use Rattle.mw_multi.specs.declared.location.LocKind.{LocKind}

-- a rule in names: a place is a region or a location
mutual
  pub data RawRule : Type 0 where
    always : RawRule
    never : RawRule
    has : List ℕ → ℕ → RawRule
    has_all : List (List ℕ) → RawRule
    has_any : List (List ℕ) → RawRule
    has_count : List (List ℕ) → ℕ → RawRule
    reach_region : List ℕ → RawRule
    reach_location : List ℕ → RawRule
    all_of : RawRules → RawRule
    some_of : RawRules → RawRule

  pub data RawRules : Type 0 where
    no_rules : RawRules
    a_rule : RawRule → RawRules → RawRules

-- the rules of a list, in order
abbrev pub rules_of : List RawRule → RawRules
rules_of [] = no_rules
rules_of (r ∷ rs) = a_rule r (rules_of rs)

-- how many forms a rule has
abbrev mutual
  pub nodes : RawRule → ℕ
  nodes always = 1
  nodes never = 1
  nodes (has n k) = 1
  nodes (has_all ns) = 1
  nodes (has_any ns) = 1
  nodes (has_count ns k) = 1
  nodes (reach_region n) = 1
  nodes (reach_location n) = 1
  nodes (all_of rs) = suc (nodes_of rs)
  nodes (some_of rs) = suc (nodes_of rs)

  pub nodes_of : RawRules → ℕ
  nodes_of no_rules = 0
  nodes_of (a_rule r rs) = nodes r + nodes_of rs

-- how deep its forms nest
abbrev mutual
  pub depth : RawRule → ℕ
  depth always = 1
  depth never = 1
  depth (has n k) = 1
  depth (has_all ns) = 1
  depth (has_any ns) = 1
  depth (has_count ns k) = 1
  depth (reach_region n) = 1
  depth (reach_location n) = 1
  depth (all_of rs) = suc (depth_of rs)
  depth (some_of rs) = suc (depth_of rs)

  pub depth_of : RawRules → ℕ
  depth_of no_rules = 0
  depth_of (a_rule r rs) = max (depth r) (depth_of rs)

pub record RawEntrance : Type 0 where
  pub name : List ℕ
  pub from : List ℕ
  pub to : List ℕ
  pub rule : RawRule

pub record RawLocation : Type 0 where
  pub name : List ℕ
  pub id : Option ℤ
  pub region : List ℕ
  pub kind : LocKind
  pub rule : RawRule
  pub event : Option (List ℕ)

pub record RawEntry : Type 0 where
  pub item : List ℕ
  pub count : ℕ

pub record RawWorld : Type 0 where
  pub game : List ℕ
  pub origin : List ℕ
  pub regions : List (List ℕ)
  pub items : List Item
  pub entrances : List RawEntrance
  pub locations : List RawLocation
  pub pool : List RawEntry
  pub filler : List ℕ
  pub goal : RawRule
