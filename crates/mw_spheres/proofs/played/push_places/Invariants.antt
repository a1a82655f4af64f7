use Rattle.std.proofs.Common.{◌≡◌, ◌++◌, map, take}
use Rattle.mw_spheres.specs.Spots.{spot_place}
use Rattle.mw_spheres.proofs.played.push_places.Given as goal

abbrev pub invariant-loop-spot : goal.invariant-loop-spot
invariant-loop-spot l = l.places.items ≡ l.fn.places.items ++ map (spot_place l.joint.slots) (take l.spot-index l.sphere)
