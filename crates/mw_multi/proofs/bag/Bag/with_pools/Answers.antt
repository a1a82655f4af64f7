use Rattle.std.proofs.Common.{◌≤◌, ◌*◌, ap, length, arith}
use Rattle.mw_multi.specs.Bags.{start_count}
use Rattle.mw_multi.proofs.Counts.{items_bound, start_bound}
use Rattle.mw_multi.proofs.Numbering.{slot_fits}
use Rattle.mw_multi.proofs.bag.Bag.with_pools.Goals as goal

pub add_pool-requires-clause-few : goal.add_pool-requires-clause-few
add_pool-requires-clause-few c =
    rw (c.loop-slot.invariant.size, ← c.joint.view_is) (let many = items_bound c.joint.inside.slots c.joint.invariant.each in omega (arith, c.joint.invariant.few))

pub add_pool-requires-clause-fits : goal.add_pool-requires-clause-fits
add_pool-requires-clause-fits c =
    rw (c.loop-slot.invariant.size, ← c.joint.view_is)
    (slot_fits c.joint.inside.slots c.as_slice-slot-items.result.now c.loop-slot.slot-index c.slot-item.result c.joint.invariant.numbered c.as_slice-slot-items.ensures c.loop-slot-test.true c.slot-item.is).items_fit

pub add_pool-requires-clause-room : goal.add_pool-requires-clause-room
add_pool-requires-clause-room c = λ n.
    let counts = c.loop-slot.invariant.counts n in
    let bound = c.loop-slot.invariant.bound n in
    let begun : start_count c.args.joint.now.slots n ≤ 256 * length c.args.joint.now.slots = rw (← c.joint.view_is) (start_bound c.joint.inside.slots n c.joint.invariant.each) in
    let many : length c.args.joint.now.slots ≤ 1024 = rw (← c.joint.view_is) c.joint.invariant.few in
    let index : c.loop-slot.slot-index ≤ 1024 = (let slots = ap length c.as_slice-slot-items.ensures in omega (arith, c.joint.invariant.few)) in
    omega arith
