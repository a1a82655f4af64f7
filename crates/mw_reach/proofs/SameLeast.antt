-- Least lists of bags and placements that say the same.
use Rattle.std.proofs.Common.{◌≡◌, ℕ, List, [], ◌∷◌, arith}
use Rattle.mw_rules.specs.Holds.{Bag, Places}
use Rattle.mw_rules.specs.Laws.{HasNoLess}
use Rattle.mw_multi.specs.Steps.{Step}
use Rattle.mw_reach.specs.Reach.{Placed, bag_with, Closed, IsLeast}
use Rattle.mw_reach.proofs.Walks.{open_more}

-- a list closed with more in its bag is closed with less
pub Closed-less : (steps : List Step) (a b : Bag) (placed other : Placed) (w : Places) → HasNoLess (bag_with a placed w) (bag_with b other w) → Closed steps b other w → Closed steps a placed w
Closed-less [] a b placed other w h k = tt
Closed-less (step ∷ steps) a b placed other w h k =
    (λ o. k.0 (open_more step (bag_with a placed w) (bag_with b other w) w w h (λ p e. e) o), Closed-less steps a b placed other w h k.1)

pub IsLeast-same : (steps : List Step) (a b : Bag) (placed : Placed) (w : Places) → ((i : ℕ) → a i ≡ b i) → IsLeast steps a placed w → IsLeast steps b placed w
IsLeast-same steps a b placed w h l = record {
  closed = Closed-less steps b a placed placed w (λ i. omega (arith, h i)) l.closed;
  least = λ v k. l.least v (Closed-less steps a b placed placed v (λ i. omega (arith, h i)) k);
}

-- the same of two tables, where bags and tables together have as many of each item
pub IsLeast-alike : (steps : List Step) (a b : Bag) (placed other : Placed) (w : Places) → ((v : Places) (i : ℕ) → bag_with a placed v i ≡ bag_with b other v i) → IsLeast steps a placed w → IsLeast steps b other w
IsLeast-alike steps a b placed other w h l = record {
  closed = Closed-less steps b a other placed w (λ i. omega (arith, h w i)) l.closed;
  least = λ v k. l.least v (Closed-less steps a b placed other v (λ i. omega (arith, h v i)) k);
}
