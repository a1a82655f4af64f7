use Rattle.std.proofs.Common.{refl, ap, ◌∙◌}
use Rattle.mw_multidata.specs.Written.{group_json}
use Rattle.mw_multidata.proofs.Trees.{next_tree, all_trees, many_writable}
use Rattle.mw_multidata.proofs.group_trees.groups_tree.Goals as goal

pub loop-group-init : goal.loop-group-init
loop-group-init c = rw c.new-trees.ensures (refl, tt)

pub loop-group-preserved : goal.loop-group-preserved
loop-group-preserved c =
    let pushed = c.in_ok-push_tree.ensures in
    let is = c.in_ok-group_tree.ensures.value ∙ ap group_json c.group-item.is in
    let l = c.loop-group in
    (next_tree group_json c.args.groups.now l.group-index c.group-item.result l.trees c.push_tree.new.trees c.in_ok-group_tree.field-0 c.loop-group-test.true l.invariant.0 pushed.value is, pushed.writable)

pub returns-clause-value : goal.returns-clause-value
returns-clause-value c = all_trees group_json c.args.groups.now c.loop-group.group-index c.loop-group.trees c.loop-group-test.false c.loop-group.invariant.0

pub returns-clause-writable : goal.returns-clause-writable
returns-clause-writable c = many_writable c.loop-group.trees c.loop-group.invariant.1
