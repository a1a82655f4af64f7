-- Rules as plain data. Items and places are numbers of one slot, from 0.
use Rattle.std.specs.Prelude.{ℕ, ◌<◌, List, All}

-- always, never; a count of one item; one of each of some items, or of one of them; a count of some items
-- together; a place that can be reached; all of some rules, or one of them
mutual
  pub data Rule : Type 0 where
    always : Rule
    never : Rule
    has : ℕ → ℕ → Rule
    has_all : List ℕ → Rule
    has_any : List ℕ → Rule
    has_count : List ℕ → ℕ → Rule
    can_reach : ℕ → Rule
    all_of : Rules → Rule
    some_of : Rules → Rule

  pub data Rules : Type 0 where
    no_rules : Rules
    a_rule : Rule → Rules → Rules

-- each number in the rule is below the number of items, or of places
abbrev mutual
  pub IsWithin : ℕ → ℕ → Rule → Type 0
  IsWithin items places always = Unit {0}
  IsWithin items places never = Unit {0}
  IsWithin items places (has i n) = i < items
  IsWithin items places (has_all is) = All (λ i. i < items) is
  IsWithin items places (has_any is) = All (λ i. i < items) is
  IsWithin items places (has_count is n) = All (λ i. i < items) is
  IsWithin items places (can_reach p) = p < places
  IsWithin items places (all_of rs) = AreWithin items places rs
  IsWithin items places (some_of rs) = AreWithin items places rs

  pub AreWithin : ℕ → ℕ → Rules → Type 0
  AreWithin items places no_rules = Unit {0}
  AreWithin items places (a_rule r rs) = IsWithin items places r × AreWithin items places rs
