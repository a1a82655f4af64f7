-- Rules beside what they come to, for two of item 0, one of item 1, and place 0 reached.
use Rattle.std.specs.Prelude.{◌≡◌, [], ◌∷◌, true, false, refl}
use Rattle.mw_rules.specs.Rule.{has, has_all, has_any, has_count, can_reach, all_of, some_of, no_rules, a_rule}
use Rattle.mw_rules.specs.Holds.{Bag, Places, bag_of, places_of, holds}

abbrev pub bag : Bag
bag = bag_of (2 ∷ 1 ∷ [])

abbrev pub reached : Places
reached = places_of (true ∷ false ∷ [])

pub two_of_it : holds (has 0 2) bag reached ≡ true
two_of_it = refl

pub not_three : holds (has 0 3) bag reached ≡ false
not_three = refl

-- no item is missing of none, and none is there
pub all_of_none : holds (has_all []) bag reached ≡ true
all_of_none = refl

pub any_of_none : holds (has_any []) bag reached ≡ false
any_of_none = refl

-- counts add up
pub three_together : holds (has_count (0 ∷ 1 ∷ []) 3) bag reached ≡ true
three_together = refl

pub not_four : holds (has_count (0 ∷ 1 ∷ []) 4) bag reached ≡ false
not_four = refl

pub place_past_the_end : holds (can_reach 2) bag reached ≡ false
place_past_the_end = refl

pub both : holds (all_of (a_rule (can_reach 0) (a_rule (has 1 1) no_rules))) bag reached ≡ true
both = refl

pub either : holds (some_of (a_rule (can_reach 1) (a_rule (has 2 1) no_rules))) bag reached ≡ false
either = refl
