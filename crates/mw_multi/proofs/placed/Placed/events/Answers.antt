use Rattle.std.proofs.Common.{◌<◌, List, length, take, sym, ap, subst, arith}
use Rattle.mw_multi.specs.Joint.{Joint}
use Rattle.mw_multi.specs.Placement.{Put, IsPlaced}
use Rattle.mw_multi.specs.Events.{events_from}
use Rattle.mw_multi.proofs.Sites.{some_slot, slots_next}
use Rattle.mw_multi.proofs.placed.Placed.events.Goals as goal

pub loop-before-preserved : goal.loop-before-preserved
loop-before-preserved c =
    let slots = c.args.joint.now.slots in
    let k = c.loop-before.before in
    let within : k < length slots = omega (arith, c.loop-before-test.true, c.len-before-end.ensures, ap (λ (j : Joint). length j.slots) c.joint.view_is) in
    let found = some_slot slots k within in
    record {
      placed = subst (λ (ps : List Put). IsPlaced c.args.joint.now ps c.put_events.new.placed) (sym (slots_next slots k found.0 found.1))
          (c.in_ok-put_events.ensures.put (events_from 1 (take k slots)) found.0 found.1 c.loop-before.invariant.placed);
      total = omega (arith, c.loop-before.invariant.total, c.in_ok-put_events.ensures.more);
    }

pub put_events-requires-clause-room : goal.put_events-requires-clause-room
put_events-requires-clause-room c = omega (arith, c.loop-before.invariant.total, c.loop-before-test.true, c.len-before-end.ensures, c.joint.invariant.few)

pub returns-clause-few : goal.returns-clause-few
returns-clause-few c = omega (arith, c.loop-before.invariant.total, c.loop-before.auto.before-end, c.len-before-end.ensures, c.joint.invariant.few)
