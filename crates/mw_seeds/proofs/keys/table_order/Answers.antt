use Rattle.std.proofs.Common.{◌≡◌, ◌++◌, ◌+◌, ◌<◌, length, take, ap, sym, subst, ◌∙◌, arith}
use Rattle.mw_multi.specs.Joint.{Slot, Joint, IsJoint}
use Rattle.mw_multi.specs.Numbered.{each_numbered}
use Rattle.mw_multi.specs.World.{World}
use Rattle.mw_multi.proofs.Numbered.{numbered_more}
use Rattle.mw_seeds.specs.Keys.{location_key, slot_keys}
use Rattle.mw_seeds.proofs.keys.table_order.Goals as goal

pub slot_id-requires : goal.slot_id-requires
slot_id-requires c =
    let slots : c.as_slice-slot-items.result.now ≡ c.args.joint.now.slots = c.as_slice-slot-items.ensures ∙ ap (λ (j : Joint). j.slots) c.joint.view_is in
    let few = (subst IsJoint c.joint.view_is c.joint.invariant).few in
    let many : length c.args.joint.now.slots < 1024 + 1 = omega (arith, few) in
    omega (arith, many, c.loop-index-test.true, ap length slots)

pub loop-index-preserved : goal.loop-index-preserved
loop-index-preserved c =
    let i = c.loop-index.index in
    let items = c.as_slice-slot-items.result.now in
    let s = c.slot-item.result in
    let number : c.slot_id.result ≡ 1 + i = omega (arith, c.slot_id.ensures) in
    let front = each_numbered slot_keys 1 (take i items) in
    let locations : c.as_slice.result.now ≡ s.world.locations = c.as_slice.ensures ∙ ap (λ (w : World). w.locations) (c.world.view_is ∙ ap (λ (s : Slot). s.world) c.slot.view_is) in
    let more = numbered_more slot_keys 1 items i s c.loop-index-test.true c.slot-item.is in
    c.in_ok-push_slot.ensures ∙ ap (λ keys. keys ++ each_numbered (location_key c.slot_id.result) 0 c.as_slice.result.now) c.loop-index.invariant
    ∙ ap (λ ls. front ++ each_numbered (location_key c.slot_id.result) 0 ls) locations ∙ ap (λ n. front ++ slot_keys n s) number ∙ sym more
