use Rattle.std.proofs.Common.{All, List, ◌≤◌, length, ap, subst, sym}
use Rattle.mw_model.specs.Seed.{Seed, Spot}
use Rattle.mw_multidata.specs.SeedKept.{IsSeed}
use Rattle.mw_seeds.proofs.Judged.{right_for}
use Rattle.mw_seeds.proofs.checking.check_seed.Goals as goal

pub check_spheres-requires-clause-claimed : goal.check_spheres-requires-clause-claimed
check_spheres-requires-clause-claimed c =
    let seed = subst IsSeed c.file.view_is c.file.invariant in
    subst (All (λ (sphere : List Spot). 1 ≤ length sphere)) (sym (ap (λ (s : Seed). s.spheres) c.file.view_is)) (λ k d l. (seed.spheres k d l).some)

pub returns-clause-ok : goal.returns-clause-ok
returns-clause-ok c =
    right_for c.args.joint.now c.args.file.now c.in_ok-placement.placement c.file.inside.spheres c.check_spheres.result (ap (λ (s : Seed). s.spheres) c.file.view_is) c.in_ok-placement.ensures.ok c.in_ok-check_spheres.was
    c.check_spheres.ensures.found c.check_spheres.ensures.ok
