use Rattle.std.proofs.Common.{◌≡◌, ◌<◌, ℕ, All, length, take}
use Rattle.mw_rules.specs.Holds.{Bag}
use Rattle.mw_reach.specs.GoingOn.{HasMore}
use Rattle.mw_reach.specs.Reached.{places_in}
use Rattle.mw_spheres.specs.Thinning.{HasFewer, IsPutIn}
use Rattle.mw_spheres.proofs.shown.put_shown.Given as goal

abbrev pub invariant-loop-place : goal.invariant-loop-place
invariant-loop-place l = record {
  size : length l.table ≡ length l.fn.table;
  fewer : HasFewer l.table l.full;
  entries : IsPutIn l.full (take l.place-index l.places) l.shown l.fn.table l.table;
  more : (base : Bag) → HasMore base base l.fn.table l.table (places_in l.reached) l.more;
  within : (items : ℕ) → All (All (λ i. i < items)) l.full → All (λ i. i < items) l.more;
}
