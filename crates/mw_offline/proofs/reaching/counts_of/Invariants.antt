use Rattle.std.proofs.Common.{◌≡◌, map, take}
use Rattle.mw_reach.specs.Reached.{places_in}
use Rattle.mw_offline.specs.Reaching.{reached_in}
use Rattle.mw_offline.proofs.reaching.counts_of.Given as goal

abbrev pub invariant-loop-slot : goal.invariant-loop-slot
invariant-loop-slot l = l.counts ≡ map (λ s. reached_in s (places_in l.reached)) (take l.slot-index l.slot-items)
