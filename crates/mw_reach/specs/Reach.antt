-- Which places can be reached.
use Rattle.std.specs.Prelude.{ℕ, suc, ◌≡◌, ◌+◌, List, [], ◌∷◌, Option, Some, None, Bool, true, ◌&&◌, nat_eq, if◌then◌else◌}
use Rattle.mw_rules.specs.Holds.{Bag, Places, holds}
use Rattle.mw_rules.specs.Laws.{IsPartOf}
use Rattle.mw_multi.specs.Steps.{Step}

-- for each place, the numbers of the items that count there
abbrev pub Placed : Type 0
Placed = List (List ℕ)

abbrev pub one_if : Bool → ℕ
one_if b = if b then 1 else 0

-- how often a number stands in a list
abbrev pub times_in : ℕ → List ℕ → ℕ
times_in n [] = 0
times_in n (m ∷ ms) = one_if (nat_eq m n) + times_in n ms

-- how many of an item lie at places of the list, the first entry being at this place
abbrev pub found_from : ℕ → Placed → Places → ℕ → ℕ
found_from p [] w i = 0
found_from p (is ∷ iss) w i = (if w p then times_in i is else 0) + found_from (suc p) iss w i

-- how many of an item lie at places of the list
abbrev pub found : Placed → Places → ℕ → ℕ
found placed w i = found_from 0 placed w i

-- the base, and what is found at the list's places
abbrev pub bag_with : Bag → Placed → Places → Bag
bag_with base placed w i = base i + found placed w i

-- a step from nowhere may always start
abbrev pub starts_in : Option ℕ → Places → Bool
starts_in None w = true
starts_in (Some p) w = w p

-- the step starts in the list, and its rule holds for its slot's items and places
abbrev pub is_open : Step → Bag → Places → Bool
is_open step bag w =
    starts_in step.from w
    && holds step.rule (λ i. bag (step.first_item + i)) (λ p. w (step.first_place + p))

-- each open step leads into the list
abbrev pub Closed : List Step → Bag → Placed → Places → Type 0
Closed [] base placed w = Unit {0}
Closed (step ∷ steps) base placed w =
    (is_open step (bag_with base placed w) w ≡ true → w step.to ≡ true) × Closed steps base placed w

-- it is closed, and each of its places is in every closed list
pub record IsLeast (steps : List Step) (base : Bag) (placed : Placed) (w : Places) : Type 0 where
  pub closed : Closed steps base placed w
  pub least : (v : Places) → Closed steps base placed v → IsPartOf w v
