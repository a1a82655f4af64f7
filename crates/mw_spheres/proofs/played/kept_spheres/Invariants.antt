use Rattle.std.proofs.Common.{◌≡◌, map, take}
use Rattle.std.specs.Prelude.{filter}
use Rattle.mw_spheres.specs.Playthrough.{is_kept}
use Rattle.mw_spheres.proofs.played.kept_spheres.Given as goal

abbrev pub invariant-loop-sphere : goal.invariant-loop-sphere
invariant-loop-sphere l = l.found ≡ map (filter (is_kept l.joint.slots l.kept)) (take l.sphere-index l.spheres)
