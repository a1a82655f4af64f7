use Rattle.std.proofs.Common.{◌≡◌, drop}
use Rattle.mw_spheres.specs.Check.{compare_spheres}
use Rattle.mw_spheres.proofs.check.compare_spheres.Given as goal

-- the spheres so far are the same
abbrev pub invariant-loop-number : goal.invariant-loop-number
invariant-loop-number l = compare_spheres l.number (drop l.number l.claimed) (drop l.number l.due) ≡ compare_spheres 0 l.claimed l.due
