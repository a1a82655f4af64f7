use Rattle.std.proofs.Common.{◌<◌, ap, ◌∙◌, subst, length, arith}
use Rattle.mw_multi.specs.Joint.{Joint, IsJoint}
use Rattle.mw_reach.proofs.Slots.{slot_fits}
use Rattle.mw_offline.proofs.reaching.counts_of.Goals as goal

pub reached_in-requires : goal.reached_in-requires
reached_in-requires c =
    let joint = c.args.joint.now in
    let i = c.loop-slot.slot-index in
    let slots = c.as_slice-slot-items.ensures ∙ ap (λ (j : Joint). j.slots) c.joint.view_is in
    let within : i < length joint.slots = subst (λ ss. i < length ss) slots c.loop-slot-test.true in
    let fits = slot_fits joint (subst IsJoint c.joint.view_is c.joint.invariant) i c.slot-item.result within (rw slots at c.slot-item.is) in
    omega (arith, fits.places, fits.few_places)
