use Rattle.std.proofs.Common.{◌+◌, ◌∙◌, ap, arith}
use Rattle.std.proofs.lemmas.List.Sums.{sum_by_more_le}
use Rattle.std.specs.Prelude.{take}
use Rattle.mw_multi.specs.WorldKept.{copies}
use Rattle.mw_multi.proofs.Counts.{entries_bound}
use Rattle.mw_multi.proofs.bag.add_entries.Goals as goal

pub add-requires-clause-room : goal.add-requires-clause-room
add-requires-clause-room c =
    let n = c.args.first_item + c.entry.inside.item in
    let now = c.loop-entry.invariant.counts n in
    let so_far = entries_bound c.args.first_item (take c.loop-entry.entry-index c.args.entries.now) n in
    let more = sum_by_more_le copies c.args.entries.now c.loop-entry.entry-index c.entry-item.result c.loop-entry-test.true in
    let this = ap copies (c.entry.view_is ∙ c.entry-item.is) in
    omega (arith, c.requires.room n)
