use Rattle.std.proofs.Common.{◌≡◌}
use Rattle.mw_stress.specs.Stress.{entrances_below}
use Rattle.mw_stress.proofs.world.entrances.Given as goal

-- those so far
abbrev pub invariant-loop-i : goal.invariant-loop-i
invariant-loop-i l = l.entrances ≡ entrances_below l.i
