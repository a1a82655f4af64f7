use Rattle.std.proofs.Common.{◌≡◌}
use Rattle.mw_clock.specs.Clockwork.{stairs_below}
use Rattle.mw_clock.proofs.world.stairs.Given as goal

-- those from the floors so far
abbrev pub invariant-loop-i : goal.invariant-loop-i
invariant-loop-i l = l.stairs ≡ stairs_below l.i
