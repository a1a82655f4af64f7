use Rattle.std.proofs.Common.{◌-◌, length, get_or, take, drop, ap, ◌∙◌, arith}
use Rattle.mw_fill.proofs.Owning.{end_is, end_within, part_is}
use Rattle.mw_fill.proofs.order.numbers_between.Goals as goal

pub part-requires-clause-begin : goal.part-requires-clause-begin
part-requires-clause-begin c =
    let a = c.args in
    let joint = c.requires.order.0 in
    let each = c.requires.order.1.begins_are.each in
    omega (arith, each a.from 0 (omega (arith, c.requires.range.0, c.requires.range.1)), each a.to 0 c.requires.range.1, end_is joint a.order.now.copies.now a.from a.to c.requires.range.0)

pub part-requires-clause-end : goal.part-requires-clause-end
part-requires-clause-end c =
    let a = c.args in
    let joint = c.requires.order.0 in
    let ordered = c.requires.order.1 in
    omega (arith, ordered.begins_are.each a.to 0 c.requires.range.1, ap length ordered.numbers_are, end_within joint a.order.now.copies.now a.from a.to c.requires.range.0)

pub returns : goal.returns
returns c = λ joint ordered.
    let a = c.args in
    let begins = a.order.now.begins.now in
    let begin = get_or begins a.from 0 in
    let end = get_or begins a.to 0 in
    let each = ordered.begins_are.each in
    c.part.ensures ∙ ap (λ ns. take (end - begin) (drop begin ns)) ordered.numbers_are
    ∙ part_is joint a.order.now.copies.now a.from a.to c.requires.range.0 begin end (each a.from 0 (omega (arith, c.requires.range.0, c.requires.range.1))) (each a.to 0 c.requires.range.1)
