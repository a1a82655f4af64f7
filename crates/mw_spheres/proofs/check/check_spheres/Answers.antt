use Rattle.std.proofs.Common.{◌∙◌, ap₂}
use Rattle.mw_spheres.specs.Check.{compare_spheres}
use Rattle.mw_spheres.proofs.Comparing.{checked, compared, memory_checked, ok_claims}
use Rattle.mw_spheres.proofs.check.check_spheres.Goals as goal

pub returns-clause-found : goal.returns-clause-found
returns-clause-found c =
    let joint = c.args.joint.now in
    let puts = c.args.placement.now in
    let claimed = c.args.claimed.now in
    checked joint puts claimed c.compare_spheres.result
    (compared joint puts claimed c.in_ok-due.due c.in_ok-table.table c.compare_spheres.result c.in_ok-table.ensures.value c.in_default.ensures.lack c.in_ok-due.ensures
    (c.compare_spheres.ensures ∙ ap₂ (compare_spheres 0) c.as_slice.ensures c.as_slice-2.ensures))

pub returns-clause-ok : goal.returns-clause-ok
returns-clause-ok c =
    let joint = c.args.joint.now in
    let puts = c.args.placement.now in
    let claimed = c.args.claimed.now in
    ok_claims joint puts claimed c.compare_spheres.result c.requires.claimed
    (compared joint puts claimed c.in_ok-due.due c.in_ok-table.table c.compare_spheres.result c.in_ok-table.ensures.value c.in_default.ensures.lack c.in_ok-due.ensures
    (c.compare_spheres.ensures ∙ ap₂ (compare_spheres 0) c.as_slice.ensures c.as_slice-2.ensures))

pub returns-in_err-due-clause-found : goal.returns-in_err-due-clause-found
returns-in_err-due-clause-found c = memory_checked c.args.joint.now c.args.placement.now c.args.claimed.now c.from_residual-in_err-due.result c.from_residual-in_err-due.ensures.1
