use Rattle.std.proofs.Common.{◌≡◌, take}
use Rattle.std.specs.Prelude.{filter}
use Rattle.mw_spheres.specs.Playthrough.{is_kept}
use Rattle.mw_spheres.proofs.played.kept_in.Given as goal

abbrev pub invariant-loop-spot : goal.invariant-loop-spot
invariant-loop-spot l = l.found ≡ filter (is_kept l.joint.slots l.kept) (take l.spot-index l.sphere)
