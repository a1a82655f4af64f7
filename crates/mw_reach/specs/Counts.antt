-- The counts in hand while places are added to a list.
use Rattle.std.specs.Prelude.{ℕ, ◌≡◌, ◌<◌, ◌+◌, ◌^◌, List, Bool, not, All, count_by}
use Rattle.mw_rules.specs.Holds.{Bag, Places, bag_of, places_of}
use Rattle.mw_reach.specs.Reach.{Placed, found, bag_with}

-- the counts are the base and what is found
abbrev pub IsTally : Bag → Placed → List Bool → List ℕ → Type 0
IsTally base placed places counts =
    (i : ℕ) → bag_of counts i ≡ bag_with base placed (places_of places) i

-- the places that aren't in the list
abbrev pub outside : List Bool → Places
outside places p = not (places_of places p)

-- each item has a count
abbrev pub LiesWithin : ℕ → Placed → Type 0
LiesWithin items placed = All (All (λ i. i < items)) placed

-- no count gets too large, however many of the other places are added
abbrev pub CountsFit : Placed → List Bool → List ℕ → Type 0
CountsFit placed places counts =
    (i : ℕ) → bag_of counts i + found placed (outside places) i < 2 ^ 32

-- how many places aren't in the list
abbrev pub missing : List Bool → ℕ
missing places = count_by not places
