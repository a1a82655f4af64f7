use Rattle.std.proofs.Common.{◌≤◌, ◌++◌, length, take, sym, ap, subst, arith}
use Rattle.std.specs.Prelude.{filter}
use Rattle.mw_multi.specs.Placement.{Put as PlainPut}
use Rattle.mw_multi.specs.Placement.{IsPlaced, put_numbers}
use Rattle.mw_multi.specs.Joint.{IsJoint}
use Rattle.mw_multi.specs.Events.{events_of, is_at_no_event, put_where}
use Rattle.mw_multi.proofs.Few.{puts_are_few}
use Rattle.mw_multi.proofs.Owners.{put_numbers_le}
use Rattle.mw_multi.proofs.Flags.{put_within, put_flag, next_free_put}
use Rattle.mw_multi.proofs.placed.Placed.with_events.Goals as goal

pub index-requires : goal.index-requires
index-requires c =
    let joint = c.args.joint.now in
    let within = put_within joint c.args.placement.now c.as_slice-put-items.result.now c.loop-put.put-index c.put-item.result c.requires c.as_slice-put-items.ensures c.loop-put-test.true c.put-item.is in
    let place = ap (λ (p : PlainPut). p.place) c.put.view_is in
    let flags = ap length c.in_ok-flags.ensures in
    omega arith

pub put_if-requires-clause-room : goal.put_if-requires-clause-room
put_if-requires-clause-room c =
    let kept = subst IsJoint c.joint.view_is c.joint.invariant in
    let few = puts_are_few c.args.joint.now c.args.placement.now kept c.requires in
    let owners = subst (λ p. length (put_numbers c.args.joint.now p) ≤ 1024) (sym c.put.view_is) (put_numbers_le c.args.joint.now c.put-item.result kept) in
    omega (arith, c.loop-put.invariant.total, c.loop-put-test.true, ap length c.as_slice-put-items.ensures)

pub loop-put-preserved : goal.loop-put-preserved
loop-put-preserved c =
    let joint = c.args.joint.now in
    let placement = c.args.placement.now in
    let items = c.as_slice-put-items.result.now in
    let owners = subst (λ p. length (put_numbers joint p) ≤ 1024) (sym c.put.view_is) (put_numbers_le joint c.put-item.result (subst IsJoint c.joint.view_is c.joint.invariant)) in
    let i = c.loop-put.put-index in
    let put = c.put-item.result in
    let free = c.index.result.now in
    let front = events_of joint ++ filter (is_at_no_event joint.slots) (take i placement) in
    let flag = put_flag joint placement items i put c.requires c.as_slice-put-items.ensures c.loop-put-test.true c.put-item.is
    c.in_ok-flags.flags.items c.put.inside.place free c.in_ok-flags.ensures (ap (λ (p : PlainPut). p.place) c.put.view_is) c.index.ensures in
    let next = next_free_put joint placement items i put c.requires c.as_slice-put-items.ensures c.loop-put-test.true c.put-item.is (events_of joint) free flag in
    let placed : IsPlaced joint (front ++ put_where free put) c.put_if.new.placed =
    subst (λ p. IsPlaced joint (front ++ put_where free p) c.put_if.new.placed) c.put.view_is (c.in_ok-put_if.ensures.put front c.loop-put.invariant.placed) in
    record {
      placed = subst (λ ps. IsPlaced joint ps c.put_if.new.placed) (sym next) placed;
      total = omega (arith, c.loop-put.invariant.total, c.in_ok-put_if.ensures.more);
    }
