use Rattle.std.proofs.Common.{arith}
use Rattle.mw_reach.proofs.Items.{room_for, counted}
use Rattle.mw_reach.proofs.tally.count_items.Goals as goal

pub overflow_add-counts : goal.overflow_add-counts
overflow_add-counts c = omega (arith, room_for c.args.counts.now c.loop-item.counts c.args.items.now c.loop-item.item-index (omega arith) c.loop-item.invariant c.requires.room)

pub loop-item-preserved : goal.loop-item-preserved
loop-item-preserved c = counted c.args.counts.now c.loop-item.counts c.args.items.now c.loop-item.item-index (omega arith) c.loop-item.invariant (omega arith)
