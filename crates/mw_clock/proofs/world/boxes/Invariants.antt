use Rattle.std.proofs.Common.{◌≡◌}
use Rattle.mw_clock.specs.Clockwork.{boxes_below}
use Rattle.mw_clock.proofs.world.boxes.Given as goal

-- those from the floors so far
abbrev pub invariant-loop-i : goal.invariant-loop-i
invariant-loop-i l = l.boxes ≡ boxes_below l.i
