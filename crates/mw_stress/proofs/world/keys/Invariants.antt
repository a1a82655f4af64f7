use Rattle.std.proofs.Common.{◌≡◌}
use Rattle.mw_stress.specs.Stress.{keys_below}
use Rattle.mw_stress.proofs.world.keys.Given as goal

-- those so far
abbrev pub invariant-loop-i : goal.invariant-loop-i
invariant-loop-i l = l.keys ≡ keys_below l.i
