use Rattle.std.proofs.Common.{◌≡◌, drop}
use Rattle.mw_multidata.specs.Names.{spheres_named}
use Rattle.mw_multidata.proofs.sphere_names.judge_spheres.Given as goal

abbrev pub invariant-loop-i : goal.invariant-loop-i
invariant-loop-i l = spheres_named l.played l.i (drop l.i l.spheres) ≡ spheres_named l.played 0 l.spheres
