use Rattle.std.proofs.Common.{◌≡◌, map, take}
use Rattle.mw_spheres.specs.Spots.{spot_place}
use Rattle.mw_spheres.specs.Spheres.{listed}
use Rattle.mw_spheres.proofs.played.all_places.Given as goal

abbrev pub invariant-loop-sphere : goal.invariant-loop-sphere
invariant-loop-sphere l = l.places.items ≡ map (spot_place l.joint.slots) (listed (take l.sphere-index l.spheres))
