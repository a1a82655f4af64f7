-- The items and places that a rule names.
use Rattle.std.specs.Prelude.{ℕ, ◌≡◌, List, [], ◌∷◌, ◌++◌, Bool, nat_eq}
use Rattle.std.specs.List.{list_any}
use Rattle.std.specs.List.Sorted.{IsStrictlyIncreasing}
use Rattle.mw_rules.specs.Rule.{Rule, always, never, has, has_all, has_any, has_count, can_reach, all_of, some_of, Rules, no_rules, a_rule}

-- the items in the rule, in its order, each as often as it stands there
abbrev mutual
  pub items_in : Rule → List ℕ
  items_in always = []
  items_in never = []
  items_in (has i n) = i ∷ []
  items_in (has_all is) = is
  items_in (has_any is) = is
  items_in (has_count is n) = is
  items_in (can_reach p) = []
  items_in (all_of rs) = items_in_all rs
  items_in (some_of rs) = items_in_all rs

  pub items_in_all : Rules → List ℕ
  items_in_all no_rules = []
  items_in_all (a_rule r rs) = items_in r ++ items_in_all rs

-- the places in the rule, in its order, each as often as it stands there
abbrev mutual
  pub places_in : Rule → List ℕ
  places_in always = []
  places_in never = []
  places_in (has i n) = []
  places_in (has_all is) = []
  places_in (has_any is) = []
  places_in (has_count is n) = []
  places_in (can_reach p) = p ∷ []
  places_in (all_of rs) = places_in_all rs
  places_in (some_of rs) = places_in_all rs

  pub places_in_all : Rules → List ℕ
  places_in_all no_rules = []
  places_in_all (a_rule r rs) = places_in r ++ places_in_all rs

-- the list has the number
abbrev pub is_among : List ℕ → ℕ → Bool
is_among ns n = list_any (λ m. nat_eq m n) ns

-- the rule names the item
abbrev pub names_item : Rule → ℕ → Bool
names_item rule i = is_among (items_in rule) i

-- the rule names the place
abbrev pub names_place : Rule → ℕ → Bool
names_place rule p = is_among (places_in rule) p

-- these are the items and the places that the rule names, each once, ascending
pub record AreNames (rule : Rule) (items places : List ℕ) : Type 0 where
  pub items_ascend : IsStrictlyIncreasing items
  pub places_ascend : IsStrictlyIncreasing places
  pub items_named : (i : ℕ) → is_among items i ≡ names_item rule i
  pub places_named : (p : ℕ) → is_among places p ≡ names_place rule p
