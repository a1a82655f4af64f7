use Rattle.std.proofs.Common.{◌≡◌, ◌≤◌, length, drop}
use Rattle.mw_spheres.specs.Check.{compare_places}
use Rattle.mw_spheres.proofs.check.compare_places.Given as goal

-- the places so far are the same
abbrev pub invariant-loop-index : goal.invariant-loop-index
invariant-loop-index l = record {
  within : l.index ≤ length l.due;
  same : compare_places l.fn.sphere (drop l.index l.claimed) (drop l.index l.due) ≡ compare_places l.fn.sphere l.claimed l.due;
}
