-- When a rule holds.
use Rattle.std.specs.Prelude.{ℕ, ◌+◌, ◌&&◌, ◌||◌, List, [], ◌∷◌, Bool, true, false, nat_le, slice_index, slice_index_or}
use Rattle.std.specs.List.{list_all, list_any}
use Rattle.mw_rules.specs.Rule.{Rule, always, never, has, has_all, has_any, has_count, can_reach, all_of, some_of, Rules, no_rules, a_rule}

-- how many there are of each item
abbrev pub Bag : Type 0
Bag = ℕ → ℕ

-- which places are in the list of places
abbrev pub Places : Type 0
Places = ℕ → Bool

-- counts in the order of the items
abbrev pub bag_of : List ℕ → Bag
bag_of counts i = slice_index counts i

-- flags in the order of the places
abbrev pub places_of : List Bool → Places
places_of places p = slice_index_or places p false

-- the bag has the item
abbrev pub has_one : Bag → ℕ → Bool
has_one bag i = nat_le 1 (bag i)

-- the counts of these items added up
abbrev pub total : Bag → List ℕ → ℕ
total bag [] = 0
total bag (i ∷ is) = bag i + total bag is

-- the rule holds for this bag and this list of places
abbrev mutual
  pub holds : Rule → Bag → Places → Bool
  holds always bag w = true
  holds never bag w = false
  holds (has i n) bag w = nat_le n (bag i)
  holds (has_all is) bag w = list_all (has_one bag) is
  holds (has_any is) bag w = list_any (has_one bag) is
  holds (has_count is n) bag w = nat_le n (total bag is)
  holds (can_reach p) bag w = w p
  holds (all_of rs) bag w = all_hold rs bag w
  holds (some_of rs) bag w = some_holds rs bag w

  pub all_hold : Rules → Bag → Places → Bool
  all_hold no_rules bag w = true
  all_hold (a_rule r rs) bag w = holds r bag w && all_hold rs bag w

  pub some_holds : Rules → Bag → Places → Bool
  some_holds no_rules bag w = false
  some_holds (a_rule r rs) bag w = holds r bag w || some_holds rs bag w
