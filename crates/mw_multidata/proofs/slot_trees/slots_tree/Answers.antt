use Rattle.std.proofs.Common.{refl, ap, ◌∙◌}
use Rattle.mw_multidata.specs.Written.{slot_json}
use Rattle.mw_multidata.proofs.Trees.{next_tree, all_trees, many_writable}
use Rattle.mw_multidata.proofs.slot_trees.slots_tree.Goals as goal

pub loop-slot-init : goal.loop-slot-init
loop-slot-init c = rw c.new-trees.ensures (refl, tt)

pub loop-slot-preserved : goal.loop-slot-preserved
loop-slot-preserved c =
    let pushed = c.in_ok-push_tree.ensures in
    let is = c.in_ok-slot_tree.ensures.value ∙ ap slot_json c.slot-item.is in
    let l = c.loop-slot in
    (next_tree slot_json c.args.slots.now l.slot-index c.slot-item.result l.trees c.push_tree.new.trees c.in_ok-slot_tree.field-0 c.loop-slot-test.true l.invariant.0 pushed.value is, pushed.writable)

pub returns-clause-value : goal.returns-clause-value
returns-clause-value c = all_trees slot_json c.args.slots.now c.loop-slot.slot-index c.loop-slot.trees c.loop-slot-test.false c.loop-slot.invariant.0

pub returns-clause-writable : goal.returns-clause-writable
returns-clause-writable c = many_writable c.loop-slot.trees c.loop-slot.invariant.1
