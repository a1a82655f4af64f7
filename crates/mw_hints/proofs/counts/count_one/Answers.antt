use Rattle.std.proofs.Common.{ap, ◌∙◌}
use Rattle.mw_hints.specs.Book.{count_or_none}
use Rattle.mw_hints.proofs.Counting.{counted_more}
use Rattle.mw_hints.proofs.counts.count_one.Goals as goal

pub returns-clause-counted : goal.returns-clause-counted
returns-clause-counted c = λ t s.
    let updates = (rw c.unwrap-old.ensures at c.insert.ensures.updates) in
    ap count_or_none (updates.0 (t, s)) ∙ counted_more c.args.counts.now c.args.team c.args.slot t s c.count_of-count.result c.count_of-count.ensures
