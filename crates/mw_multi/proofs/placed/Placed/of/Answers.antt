use Rattle.std.proofs.Common.{ap, length, subst, take, arith}
use Rattle.mw_multi.specs.Joint.{IsJoint}
use Rattle.mw_multi.proofs.Few.{puts_are_few}
use Rattle.mw_multi.proofs.Owners.{put_numbers_le}
use Rattle.mw_multi.proofs.Standing.{next_put}
use Rattle.mw_multi.proofs.placed.Placed.of.Goals as goal

pub put-requires-clause-room : goal.put-requires-clause-room
put-requires-clause-room c =
    let kept = subst IsJoint c.joint.view_is c.joint.invariant in
    let few = puts_are_few c.args.joint.now c.args.placement.now kept c.requires in
    let owners = put_numbers_le c.args.joint.now c.put-item.result kept in
    omega (arith, c.loop-put.invariant.total, c.loop-put-test.true, ap length c.as_slice-put-items.ensures)

pub loop-put-preserved : goal.loop-put-preserved
loop-put-preserved c =
    let owners = put_numbers_le c.args.joint.now c.put-item.result (subst IsJoint c.joint.view_is c.joint.invariant) in
    record {
      placed = rw (next_put c.as_slice-put-items.result.now c.args.placement.now c.loop-put.put-index c.put-item.result c.as_slice-put-items.ensures c.loop-put-test.true c.put-item.is)
          (c.in_ok-put.ensures.ok (take c.loop-put.put-index c.args.placement.now) c.loop-put.invariant.placed);
      total = omega (arith, c.loop-put.invariant.total, c.in_ok-put.ensures.more);
    }
