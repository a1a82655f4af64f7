use Rattle.std.proofs.Common.{◌≡◌}
use Rattle.mw_stress.specs.Stress.{spots_below}
use Rattle.mw_stress.proofs.world.spots.Given as goal

-- those so far
abbrev pub invariant-loop-i : goal.invariant-loop-i
invariant-loop-i l = l.spots ≡ spots_below l.i
