use Rattle.std.proofs.Common.{refl, ap, ◌∙◌}
use Rattle.mw_multidata.specs.Written.{start_json}
use Rattle.mw_multidata.proofs.Trees.{next_tree, all_trees, many_writable}
use Rattle.mw_multidata.proofs.slot_trees.start_tree.Goals as goal

pub loop-item-init : goal.loop-item-init
loop-item-init c = rw c.new-trees.ensures (refl, tt)

pub loop-item-preserved : goal.loop-item-preserved
loop-item-preserved c =
    let pushed = c.in_ok-push_tree.ensures in
    let is = c.in_ok-start_item_tree.ensures.value ∙ ap start_json c.item-item.is in
    let l = c.loop-item in
    (next_tree start_json c.args.start.now l.item-index c.item-item.result l.trees c.push_tree.new.trees c.in_ok-start_item_tree.field-0 c.loop-item-test.true l.invariant.0 pushed.value is, pushed.writable)

pub returns-clause-value : goal.returns-clause-value
returns-clause-value c = all_trees start_json c.args.start.now c.loop-item.item-index c.loop-item.trees c.loop-item-test.false c.loop-item.invariant.0

pub returns-clause-writable : goal.returns-clause-writable
returns-clause-writable c = many_writable c.loop-item.trees c.loop-item.invariant.1
