-- What a world's rules keep: their size, their lists, their counts, and that they ask for progression items alone.
use Rattle.std.specs.Prelude.{◌≡◌, ℕ, suc, max, ◌+◌, ◌≤◌, List, Bool, true, false, Some, None, Option, All, length, slice_get}
use Rattle.std.specs.List.{IsDistinct}
use Rattle.std.specs.Prelude.{nat_eq}
use Rattle.mw_rules.specs.Rule.{Rule, always, never, has, has_all, has_any, has_count, can_reach, all_of, some_of, Rules, no_rules, a_rule, IsWithin}
use Rattle.mw_rules.specs.Names.{items_in}
use Rattle.mw_multi.specs.World.{Item}
use Rattle.mw_multi.specs.declared.item.Class.{Class}
use Rattle.mw_multi.specs.declared.item.Class.TheVariants.{Progression, Useful, Filler, Trap}

-- how many forms a rule has
abbrev mutual
  pub nodes : Rule → ℕ
  nodes always = 1
  nodes never = 1
  nodes (has i n) = 1
  nodes (has_all is) = 1
  nodes (has_any is) = 1
  nodes (has_count is n) = 1
  nodes (can_reach p) = 1
  nodes (all_of rs) = suc (nodes_of rs)
  nodes (some_of rs) = suc (nodes_of rs)

  pub nodes_of : Rules → ℕ
  nodes_of no_rules = 0
  nodes_of (a_rule r rs) = nodes r + nodes_of rs

-- how deep its forms nest
abbrev mutual
  pub depth : Rule → ℕ
  depth always = 1
  depth never = 1
  depth (has i n) = 1
  depth (has_all is) = 1
  depth (has_any is) = 1
  depth (has_count is n) = 1
  depth (can_reach p) = 1
  depth (all_of rs) = suc (depth_of rs)
  depth (some_of rs) = suc (depth_of rs)

  pub depth_of : Rules → ℕ
  depth_of no_rules = 0
  depth_of (a_rule r rs) = max (depth r) (depth_of rs)

-- a list of at most 64 items, each once
pub record IsItemList (is : List ℕ) : Type 0 where
  pub short : length is ≤ 64
  pub once : IsDistinct nat_eq is

-- from 1 to 10,000
pub record IsCount (n : ℕ) : Type 0 where
  pub low : 1 ≤ n
  pub high : n ≤ 10000

-- each list of items and each count in the rule is in its limits
abbrev mutual
  pub IsInLimits : Rule → Type 0
  IsInLimits always = Unit {0}
  IsInLimits never = Unit {0}
  IsInLimits (has i n) = IsCount n
  IsInLimits (has_all is) = IsItemList is
  IsInLimits (has_any is) = IsItemList is
  IsInLimits (has_count is n) = IsItemList is × IsCount n
  IsInLimits (can_reach p) = Unit {0}
  IsInLimits (all_of rs) = AreInLimits rs
  IsInLimits (some_of rs) = AreInLimits rs

  pub AreInLimits : Rules → Type 0
  AreInLimits no_rules = Unit {0}
  AreInLimits (a_rule r rs) = IsInLimits r × AreInLimits rs

abbrev pub is_progression : Class → Bool
is_progression Progression = true
is_progression Useful = false
is_progression Filler = false
is_progression Trap = false

-- the item has the class progression
abbrev pub is_progression_item : Option Item → Bool
is_progression_item (Some i) = is_progression i.class
is_progression_item None = false

abbrev pub IsProgressionAt : List Item → ℕ → Type 0
IsProgressionAt items i = is_progression_item (slice_get items i) ≡ true

-- a rule of a world with these items and so many places
pub record RuleKept (items : List Item) (places : ℕ) (rule : Rule) : Type 0 where
  pub within : IsWithin (length items) places rule
  pub progression : All (IsProgressionAt items) (items_in rule)
  pub small : nodes rule ≤ 64
  pub shallow : depth rule ≤ 16
  pub limits : IsInLimits rule
