use Rattle.std.proofs.Common.{refl, ap, ◌∙◌}
use Rattle.mw_multidata.specs.Written.{sphere_json}
use Rattle.mw_multidata.proofs.Trees.{next_tree, all_trees, many_writable}
use Rattle.mw_multidata.proofs.sphere_trees.spheres_tree.Goals as goal

pub loop-sphere-init : goal.loop-sphere-init
loop-sphere-init c = rw c.new-trees.ensures (refl, tt)

pub loop-sphere-preserved : goal.loop-sphere-preserved
loop-sphere-preserved c =
    let pushed = c.in_ok-push_tree.ensures in
    let is = c.in_ok-sphere_tree.ensures.value ∙ ap sphere_json (c.as_slice.ensures ∙ c.sphere-item.is) in
    let l = c.loop-sphere in
    (next_tree sphere_json c.args.spheres.now l.sphere-index c.sphere-item.result l.trees c.push_tree.new.trees c.in_ok-sphere_tree.field-0 c.loop-sphere-test.true l.invariant.0 pushed.value is, pushed.writable)

pub returns-clause-value : goal.returns-clause-value
returns-clause-value c = all_trees sphere_json c.args.spheres.now c.loop-sphere.sphere-index c.loop-sphere.trees c.loop-sphere-test.false c.loop-sphere.invariant.0

pub returns-clause-writable : goal.returns-clause-writable
returns-clause-writable c = many_writable c.loop-sphere.trees c.loop-sphere.invariant.1
