use Rattle.std.proofs.Common.{sym, ◌∙◌}
use Rattle.mw_json.specs.View.{view}
use Rattle.mw_records.proofs.Values.{own_text, own_value, other_text}
use Rattle.mw_records.proofs.texts.value_of.Goals as goal

pub returns-then-branch-clause-value : goal.returns-then-branch-clause-value
returns-then-branch-clause-value c = own_text c.args.text.now (view c.in_ok-tree.tree) c.in_ok-tree.ensures.ok (sym c.if-branch.true ∙ c.in_ok-is_own.ensures)

pub returns-then-branch-clause-kept : goal.returns-then-branch-clause-kept
returns-then-branch-clause-kept c = own_value c.args.text.now (view c.in_ok-tree.tree) c.in_ok-tree.ensures.ok (sym c.if-branch.true ∙ c.in_ok-is_own.ensures) c.requires

pub returns-else-branch-clause-value : goal.returns-else-branch-clause-value
returns-else-branch-clause-value c = other_text c.args.text.now (view c.in_ok-tree.tree) c.in_ok-tree.ensures.ok (sym c.if-branch.false ∙ c.in_ok-is_own.ensures)
