use Rattle.std.proofs.Common.{refl, ap, ◌∙◌}
use Rattle.mw_multidata.specs.Written.{spot_json}
use Rattle.mw_multidata.proofs.Trees.{next_tree, all_trees, many_writable}
use Rattle.mw_multidata.proofs.sphere_trees.sphere_tree.Goals as goal

pub loop-spot-init : goal.loop-spot-init
loop-spot-init c = rw c.new-trees.ensures (refl, tt)

pub loop-spot-preserved : goal.loop-spot-preserved
loop-spot-preserved c =
    let pushed = c.in_ok-push_tree.ensures in
    let is = c.in_ok-spot_tree.ensures.value ∙ ap spot_json c.spot-item.is in
    let l = c.loop-spot in
    (next_tree spot_json c.args.sphere.now l.spot-index c.spot-item.result l.trees c.push_tree.new.trees c.in_ok-spot_tree.field-0 c.loop-spot-test.true l.invariant.0 pushed.value is, pushed.writable)

pub returns-clause-value : goal.returns-clause-value
returns-clause-value c = all_trees spot_json c.args.sphere.now c.loop-spot.spot-index c.loop-spot.trees c.loop-spot-test.false c.loop-spot.invariant.0

pub returns-clause-writable : goal.returns-clause-writable
returns-clause-writable c = many_writable c.loop-spot.trees c.loop-spot.invariant.1
