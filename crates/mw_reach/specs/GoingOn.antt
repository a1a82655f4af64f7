-- Least lists that go on with further items.
use Rattle.std.specs.Prelude.{ℕ, ◌≡◌, ◌<◌, ◌+◌, ◌^◌, List, Bool}
use Rattle.mw_rules.specs.Holds.{Bag, Places, bag_of, places_of}
use Rattle.mw_rules.specs.Laws.{HasNoLess}
use Rattle.mw_multi.specs.Steps.{Step}
use Rattle.mw_reach.specs.Reach.{Placed, times_in, found, bag_with, IsLeast}
use Rattle.mw_reach.specs.Counts.{IsTally, outside}

-- the least list, and how many of each item there are in the base and at its places
pub record IsFinished (steps : List Step) (base : Bag) (placed : Placed) (done : List Bool)
    (counts : List ℕ) : Type 0 where
  pub least : IsLeast steps base placed (places_of done)
  pub tally : IsTally base placed done counts

-- these items are more, in the base or at places of the list, and whatever the list is nothing is less
pub record HasMore (base later : Bag) (before placed : Placed) (w : Places) (more : List ℕ) : Type 0
  where
    pub counts : (i : ℕ) → bag_with later placed w i ≡ bag_with base before w i + times_in i more
    pub grows : (v : Places) → HasNoLess (bag_with base before v) (bag_with later placed v)

-- no count gets too large with these items, however many of the other places are added
abbrev pub CountsFitWith : List ℕ → Placed → List Bool → List ℕ → Type 0
CountsFitWith more placed places counts =
    (i : ℕ) → bag_of counts i + times_in i more + found placed (outside places) i < 2 ^ 32
