use Rattle.std.proofs.Common.{refl, ap, ◌∙◌}
use Rattle.mw_model.specs.Json.{words}
use Rattle.mw_model.specs.Trees.{text_json}
use Rattle.mw_multidata.proofs.Trees.{next_tree, all_trees, many_writable}
use Rattle.mw_multidata.proofs.slot_trees.texts_tree.Goals as goal

pub loop-text-init : goal.loop-text-init
loop-text-init c = rw c.new-trees.ensures (refl, tt)

pub loop-text-preserved : goal.loop-text-preserved
loop-text-preserved c =
    let pushed = c.in_ok-push_tree.ensures in
    let is = c.in_ok-words_tree.ensures ∙ ap words (c.as_str.ensures ∙ c.text-item.is) in
    let l = c.loop-text in
    (next_tree text_json c.args.texts.now l.text-index c.text-item.result l.trees c.push_tree.new.trees c.in_ok-words_tree.field-0 c.loop-text-test.true l.invariant.0 pushed.value is, pushed.writable)

pub returns-clause-value : goal.returns-clause-value
returns-clause-value c = all_trees text_json c.args.texts.now c.loop-text.text-index c.loop-text.trees c.loop-text-test.false c.loop-text.invariant.0

pub returns-clause-writable : goal.returns-clause-writable
returns-clause-writable c = many_writable c.loop-text.trees c.loop-text.invariant.1
