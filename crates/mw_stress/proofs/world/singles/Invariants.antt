use Rattle.std.proofs.Common.{◌≡◌}
use Rattle.mw_stress.specs.Stress.{singles_below}
use Rattle.mw_stress.proofs.world.singles.Given as goal

-- those so far
abbrev pub invariant-loop-item : goal.invariant-loop-item
invariant-loop-item l = l.pool ≡ singles_below l.item
