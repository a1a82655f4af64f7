use Rattle.std.proofs.Common.{◌≡◌, take}
use Rattle.mw_spheres.specs.Spots.{items_at}
use Rattle.mw_spheres.proofs.sphere.items_of.Given as goal

abbrev pub invariant-loop-spot : goal.invariant-loop-spot
invariant-loop-spot l = l.items ≡ items_at l.joint.slots l.table (take l.spot-index l.sphere)
