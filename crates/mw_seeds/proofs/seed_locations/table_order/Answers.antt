use Rattle.std.proofs.Common.{◌≡◌, ◌++◌, ◌+◌, ◌<◌, None, slice_index_or, length, take, ap, subst, ◌∙◌, sym, arith}
use Rattle.mw_multi.specs.Joint.{Joint, IsJoint}
use Rattle.mw_reach.proofs.Slots.{slot_fits}
use Rattle.mw_multi.specs.Numbered.{each_numbered}
use Rattle.mw_multi.proofs.Numbered.{numbered_more}
use Rattle.mw_seeds.specs.SeedFile.{slot_held}
use Rattle.mw_seeds.proofs.seed_locations.table_order.Goals as goal

pub slot_id-requires : goal.slot_id-requires
slot_id-requires c =
    let slots : c.as_slice-slot-items.result.now ≡ c.args.joint.now.slots = c.as_slice-slot-items.ensures ∙ ap (λ (j : Joint). j.slots) c.joint.view_is in
    let few = (subst IsJoint c.joint.view_is c.joint.invariant).few in
    let many : length c.args.joint.now.slots < 1024 + 1 = omega (arith, few) in
    omega (arith, many, c.loop-index-test.true, ap length slots)

pub push_slot-requires-clause-fits : goal.push_slot-requires-clause-fits
push_slot-requires-clause-fits c =
    let joint = c.args.joint.now in
    let slots : c.as_slice-slot-items.result.now ≡ joint.slots = c.as_slice-slot-items.ensures ∙ ap (λ (j : Joint). j.slots) c.joint.view_is in
    let fits = slot_fits joint (subst IsJoint c.joint.view_is c.joint.invariant) c.loop-index.index c.slot-item.result (rw slots at c.loop-index-test.true) (rw slots at c.slot-item.is) in
    omega (arith, fits.places, fits.few_places)

pub push_slot-requires-clause-within : goal.push_slot-requires-clause-within
push_slot-requires-clause-within c =
    let joint = c.args.joint.now in
    let slots : c.as_slice-slot-items.result.now ≡ joint.slots = c.as_slice-slot-items.ensures ∙ ap (λ (j : Joint). j.slots) c.joint.view_is in
    let fits = slot_fits joint (subst IsJoint c.joint.view_is c.joint.invariant) c.loop-index.index c.slot-item.result (rw slots at c.loop-index-test.true) (rw slots at c.slot-item.is) in
    omega (arith, fits.places, c.requires)

pub loop-index-preserved : goal.loop-index-preserved
loop-index-preserved c =
    let i = c.loop-index.index in
    let items = c.as_slice-slot-items.result.now in
    let f = slot_held c.args.joint.now (λ p. slice_index_or c.args.stands.now p None) in
    let s = c.slot-item.result in
    let number : c.slot_id.result ≡ 1 + i = omega (arith, c.slot_id.ensures) in
    let more = numbered_more f 1 items i s c.loop-index-test.true c.slot-item.is in
    c.in_ok-push_slot.ensures ∙ ap (λ held. held ++ f c.slot_id.result s) c.loop-index.invariant ∙ ap (λ n. each_numbered f 1 (take i items) ++ f n s) number ∙ sym more
