use Rattle.std.proofs.Common.{◌≡◌, drop}
use Rattle.mw_multidata.specs.Names.{sphere_named}
use Rattle.mw_multidata.proofs.sphere_names.judge_sphere.Given as goal

abbrev pub invariant-loop-i : goal.invariant-loop-i
invariant-loop-i l = sphere_named l.played l.i (drop l.i l.sphere) ≡ sphere_named l.played 0 l.sphere
