use Rattle.std.proofs.Common.{◌<◌, ap, ◌∙◌, length, arith}
use Rattle.std.proofs.Common.{subst}
use Rattle.mw_multi.specs.Joint.{Joint, IsJoint}
use Rattle.mw_reach.proofs.Slots.{slot_fits}
use Rattle.mw_offline.proofs.reaching.lines_of.Goals as goal

pub reached_in-reached-requires : goal.reached_in-reached-requires
reached_in-reached-requires c =
    let joint = c.args.joint.now in
    let k = c.loop-before.before in
    let slots = c.as_slice.ensures ∙ ap (λ (j : Joint). j.slots) c.joint.view_is in
    let within : k < length joint.slots = omega (arith, c.loop-before-test.true, c.len-before-end.ensures, ap (λ (j : Joint). length j.slots) c.joint.view_is) in
    let fits = slot_fits joint (subst IsJoint c.joint.view_is c.joint.invariant) k c.index-as_slice-before.result within (rw slots at c.index-as_slice-before.is) in
    omega (arith, fits.places, fits.few_places)
