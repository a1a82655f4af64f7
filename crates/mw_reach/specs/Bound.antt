-- How often rules are asked.
use Rattle.std.specs.Prelude.{ℕ, suc, ◌+◌, ◌-◌, List, [], ◌∷◌, Option, Some, None, Bool, false, not, ◌&&◌, ◌||◌, is_some, nat_eq, nat_le, slice_index_or, sum_by, if◌then◌else◌}
use Rattle.mw_rules.specs.Names.{names_item, names_place}
use Rattle.mw_multi.specs.Steps.{Step}
use Rattle.mw_reach.specs.Reach.{Placed, one_if}

-- the step's rule names the place, by its number over all slots
abbrev pub names_place_at : Step → ℕ → Bool
names_place_at step p = nat_le step.first_place p && names_place step.rule (p - step.first_place)

-- the step's rule names the item, by its number over all slots
abbrev pub names_item_at : Step → ℕ → Bool
names_item_at step i = nat_le step.first_item i && names_item step.rule (i - step.first_item)

-- how many of these items the step's rule names, each counted as often as it stands there
abbrev pub items_named : Step → List ℕ → ℕ
items_named step is = sum_by (λ i. one_if (names_item_at step i)) is

-- the sum of what a function gives at the places of a list, the first flag being of this place
abbrev pub sum_at : (ℕ → ℕ) → ℕ → List Bool → ℕ
sum_at f p [] = 0
sum_at f p (d ∷ ds) = (if d then f p else 0) + sum_at f (suc p) ds

-- once for each place of the list that the step's rule names, and once for each item there that it names
abbrev pub times_named : Placed → List Bool → Step → ℕ
times_named placed w step =
    sum_at (λ p. one_if (names_place_at step p) + items_named step (slice_index_or placed p [])) 0 w

-- how often the step's rule may be asked: a step from nowhere has none to ask
abbrev pub step_asks : Placed → List Bool → Step → ℕ
step_asks placed w step = one_if (is_some step.from) + times_named placed w step

-- the rule of each entrance and location once, and once more for each item and place of the list that it names
abbrev pub asks_allowed : List Step → Placed → List Bool → ℕ
asks_allowed steps placed w = sum_by (step_asks placed w) steps

-- once for each of these items that each rule names
abbrev pub asks_naming : List Step → List ℕ → ℕ
asks_naming steps items = sum_by (λ step. items_named step items) steps

-- ---- a list that goes on

abbrev pub is_at : Option ℕ → ℕ → Bool
is_at None p = false
is_at (Some q) p = nat_eq q p

-- the step starts at the place, or its rule names it
abbrev pub waits_for_place : Step → ℕ → Bool
waits_for_place step p = is_at step.from p || names_place_at step p

-- how often the step's rule may be asked for a place: once where it waits for it, and once for each item there that it names
abbrev pub asks_for : Placed → Step → ℕ → ℕ
asks_for placed step p =
    one_if (waits_for_place step p) + items_named step (slice_index_or placed p [])

-- each rule so often for each place of the list
abbrev pub asks_at : List Step → Placed → List Bool → ℕ
asks_at steps placed w = sum_by (λ step. sum_at (asks_for placed step) 0 w) steps

-- the places that are in the second list and not in the first
abbrev pub new_in : List Bool → List Bool → List Bool
new_in old [] = []
new_in [] (d ∷ ds) = d ∷ new_in [] ds
new_in (o ∷ os) (d ∷ ds) = (not o && d) ∷ new_in os ds
