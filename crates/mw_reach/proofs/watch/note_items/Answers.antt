use Rattle.std.proofs.Common.{◌+◌, get_or, take}
use Rattle.std.specs.Prelude.{nat_eq}
use Rattle.mw_reach.specs.Reach.{one_if, times_in}
use Rattle.mw_reach.specs.Tables.{shifted}
use Rattle.mw_reach.proofs.Noting.{one_noted, both_noted, shifted_more}
use Rattle.mw_reach.proofs.watch.note_items.Goals as goal

pub loop-item-preserved : goal.loop-item-preserved
loop-item-preserved c =
    let first = c.args.first in
    let items = c.args.items.now in
    let i = c.loop-item.item-index in
    let key = first + get_or items i 0 in
    let within = c.requires.items i 0 c.loop-item-test.true in
    let noted = one_noted c.loop-item.table key c.args.number (rw c.loop-item.invariant.size within) in
    both_noted c.args.table.now c.loop-item.table c.note.new.self c.args.number (λ k. times_in k (shifted first (take i items))) (λ k. one_if (nat_eq key k)) (λ k. times_in k (shifted first (take (i + 1) items)))
    (λ k. shifted_more first items i 0 k c.loop-item-test.true) c.loop-item.invariant (rw c.in_ok-note.ensures.noted noted)
