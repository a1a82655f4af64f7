use Rattle.std.proofs.Common.{◌∙◌, get_or, sym, ap, arith}
use Rattle.std.specs.Prelude.{slice_range}
use Rattle.mw_reach.proofs.Cutting.{cut_at}
use Rattle.mw_reach.proofs.table.list_at.Goals as goal

pub between-requires-clause-start : goal.between-requires-clause-start
between-requires-clause-start c = omega (arith, cut_at c.args.key c.args.ends.now c.args.numbers.now c.requires.ends c.requires.key, c.start_of.ensures)

pub between-requires-clause-end : goal.between-requires-clause-end
between-requires-clause-end c = (cut_at c.args.key c.args.ends.now c.args.numbers.now c.requires.ends c.requires.key).1

pub returns : goal.returns
returns c =
    c.between.ensures
    ∙ ap (λ k. slice_range c.args.numbers.now k (get_or c.args.ends.now c.args.key 0)) c.start_of.ensures
    ∙ sym (cut_at c.args.key c.args.ends.now c.args.numbers.now c.requires.ends c.requires.key).2
