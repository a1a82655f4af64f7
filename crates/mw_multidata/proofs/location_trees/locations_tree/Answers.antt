use Rattle.std.proofs.Common.{refl, ap, ◌∙◌}
use Rattle.mw_multidata.specs.Written.{held_json}
use Rattle.mw_multidata.proofs.Trees.{next_tree, all_trees, many_writable}
use Rattle.mw_multidata.proofs.location_trees.locations_tree.Goals as goal

pub loop-held-init : goal.loop-held-init
loop-held-init c = rw c.in_ok-trees.ensures (refl, tt)

pub loop-held-preserved : goal.loop-held-preserved
loop-held-preserved c =
    let pushed = c.in_ok-push_tree.ensures in
    let is = c.in_ok-held_tree.ensures.value ∙ ap held_json c.held-item.is in
    let l = c.loop-held in
    (next_tree held_json c.args.locations.now l.held-index c.held-item.result l.trees c.push_tree.new.trees c.in_ok-held_tree.field-0 c.loop-held-test.true l.invariant.0 pushed.value is, pushed.writable)

pub returns-clause-value : goal.returns-clause-value
returns-clause-value c = all_trees held_json c.args.locations.now c.loop-held.held-index c.loop-held.trees c.loop-held-test.false c.loop-held.invariant.0

pub returns-clause-writable : goal.returns-clause-writable
returns-clause-writable c = many_writable c.loop-held.trees c.loop-held.invariant.1
