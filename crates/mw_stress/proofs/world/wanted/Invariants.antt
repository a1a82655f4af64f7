use Rattle.std.proofs.Common.{◌≡◌}
use Rattle.mw_stress.specs.Stress.{items_below}
use Rattle.mw_stress.proofs.world.wanted.Given as goal

-- those so far
abbrev pub invariant-loop-item : goal.invariant-loop-item
invariant-loop-item l = l.wanted ≡ items_below l.item
