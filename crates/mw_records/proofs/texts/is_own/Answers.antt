use Rattle.mw_json.specs.View.{view}
use Rattle.mw_records.proofs.Values.{not_compact, compact_where}
use Rattle.mw_records.proofs.texts.is_own.Goals as goal

pub returns-then-not-can_write : goal.returns-then-not-can_write
returns-then-not-can_write c = not_compact c.args.text.now (view c.args.tree.now) c.can_write.result c.can_write.ensures c.if-not-can_write.true

pub returns : goal.returns
returns c =
    compact_where c.args.text.now c.as_slice.result.now (view c.args.tree.now) c.can_write.result c.eq.result c.can_write.ensures c.if-not-can_write.false (rw c.as_slice.ensures c.in_ok-again.ensures.text) c.eq.ensures
