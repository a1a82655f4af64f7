-- Least lists with their counts, said in other ways.
use Rattle.std.proofs.Common.{◌≡◌, ℕ, Bool, List, arith}
use Rattle.mw_rules.specs.Holds.{Bag, Places, places_of}
use Rattle.mw_multi.specs.Steps.{Step}
use Rattle.mw_reach.specs.Reach.{Placed, bag_with}
use Rattle.mw_reach.specs.GoingOn.{IsFinished}
use Rattle.mw_reach.proofs.SameLeast.{IsLeast-alike}

-- where bags and tables together have as many of each item
pub settled_alike : (steps : List Step) (a b : Bag) (placed other : Placed) (done : List Bool) (counts : List ℕ) → ((v : Places) (i : ℕ) → bag_with a placed v i ≡ bag_with b other v i) → IsFinished steps a placed done counts → IsFinished steps b other done counts
settled_alike steps a b placed other done counts h s = record { least = IsLeast-alike steps a b placed other (places_of done) h s.least; tally = λ i. omega (arith, h (places_of done) i, s.tally i) }

pub settled_moved : (steps : List Step) (base : Bag) (placed : Placed) (done flags : List Bool) (counts tally : List ℕ) → done ≡ flags → counts ≡ tally → IsFinished steps base placed done counts → IsFinished steps base placed flags tally
settled_moved steps base placed done flags counts tally d c s = rw (← d, ← c) s
