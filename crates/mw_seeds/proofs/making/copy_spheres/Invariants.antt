use Rattle.std.proofs.Common.{◌≡◌, take}
use Rattle.mw_seeds.proofs.making.copy_spheres.Given as goal

abbrev pub invariant-loop-sphere : goal.invariant-loop-sphere
invariant-loop-sphere l = l.copy ≡ take l.sphere-index l.spheres
