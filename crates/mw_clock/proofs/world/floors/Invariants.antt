use Rattle.std.proofs.Common.{◌≡◌}
use Rattle.mw_clock.specs.Clockwork.{floors_below}
use Rattle.mw_clock.proofs.world.floors.Given as goal

-- those from the floors so far
abbrev pub invariant-loop-i : goal.invariant-loop-i
invariant-loop-i l = l.floors ≡ floors_below l.i
