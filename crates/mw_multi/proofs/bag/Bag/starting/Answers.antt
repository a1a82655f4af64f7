use Rattle.std.proofs.Common.{arith}
use Rattle.mw_multi.proofs.Counts.{items_bound}
use Rattle.mw_multi.proofs.Numbering.{slot_fits}
use Rattle.mw_multi.proofs.bag.Bag.starting.Goals as goal

pub add_start-requires-clause-few : goal.add_start-requires-clause-few
add_start-requires-clause-few c =
    rw (c.loop-slot.invariant.size, ← c.joint.view_is) (let many = items_bound c.joint.inside.slots c.joint.invariant.each in omega (arith, c.joint.invariant.few))

pub add_start-requires-clause-fits : goal.add_start-requires-clause-fits
add_start-requires-clause-fits c =
    rw (c.loop-slot.invariant.size, ← c.joint.view_is)
    (slot_fits c.joint.inside.slots c.as_slice-slot-items.result.now c.loop-slot.slot-index c.slot-item.result c.joint.invariant.numbered c.as_slice-slot-items.ensures c.loop-slot-test.true c.slot-item.is).items_fit
