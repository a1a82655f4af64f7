use Rattle.std.proofs.Common.{◌<◌, length, sym, ap, subst, ◌∙◌, arith}
use Rattle.mw_multi.specs.Joint.{Joint, IsJoint}
use Rattle.mw_reach.specs.Reached.{places_in}
use Rattle.mw_reach.specs.Required.{missed_in}
use Rattle.mw_reach.proofs.Slots.{slot_fits}
use Rattle.mw_reach.proofs.Requiring.{next_seen}
use Rattle.mw_reach.proofs.required.missed_location.Goals as goal

pub missed_in-requires : goal.missed_in-requires
missed_in-requires c =
    let joint = c.args.joint.now in
    let slots = c.as_slice-slot-items.ensures ∙ ap (λ (j : Joint). j.slots) c.joint.view_is in
    let fits = slot_fits joint (subst IsJoint c.joint.view_is c.joint.invariant) c.loop-index.index c.slot-item.result (rw slots at c.loop-index-test.true) (rw slots at c.slot-item.is) in
    omega (arith, fits.places, fits.few_places)

pub loop-index-preserved : goal.loop-index-preserved
loop-index-preserved c =
    let joint = c.args.joint.now in
    let w = places_in c.args.reached.now in
    let i = c.loop-index.index in
    let slots = c.as_slice-slot-items.ensures ∙ ap (λ (j : Joint). j.slots) c.joint.view_is in
    let within : i < length joint.slots = rw slots at c.loop-index-test.true in
    let fits = slot_fits joint (subst IsJoint c.joint.view_is c.joint.invariant) i c.slot-item.result within (rw slots at c.slot-item.is) in
    record { so_far = next_seen joint i within w (ap (missed_in w) fits.there ∙ sym c.in_default.ensures) ∙ c.loop-index.invariant.so_far }
