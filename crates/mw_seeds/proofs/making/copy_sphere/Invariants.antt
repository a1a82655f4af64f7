use Rattle.std.proofs.Common.{◌≡◌, take}
use Rattle.mw_seeds.proofs.making.copy_sphere.Given as goal

abbrev pub invariant-loop-spot : goal.invariant-loop-spot
invariant-loop-spot l = l.copy ≡ take l.spot-index l.sphere
