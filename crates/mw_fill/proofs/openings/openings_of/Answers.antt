use Rattle.std.proofs.Common.{◌≡◌, All, ◌++◌, ◌+◌, length, take, take_all, ap, sym, subst, ◌∙◌, arith}
use Rattle.mw_multi.specs.Joint.{Joint, IsJoint}
use Rattle.mw_reach.proofs.Slots.{slot_fits}
use Rattle.mw_fill.specs.Kept.{OpeningKept}
use Rattle.mw_multi.specs.Numbered.{each_numbered}
use Rattle.mw_fill.specs.Openings.{slot_openings, openings_of as plain_openings}
use Rattle.mw_multi.proofs.Numbered.{numbered_more}
use Rattle.mw_fill.proofs.Locations.{openings_are_few, openings_kept}
use Rattle.mw_fill.proofs.openings.openings_of.Goals as goal

pub push_slot-requires : goal.push_slot-requires
push_slot-requires c =
    let joint = c.args.joint.now in
    let kept : IsJoint joint = subst IsJoint c.joint.view_is c.joint.invariant in
    let slots : c.as_slice-slot-items.result.now ≡ joint.slots = c.as_slice-slot-items.ensures ∙ ap (λ j. j.slots) c.joint.view_is in
    let fits = slot_fits joint kept c.loop-index.index c.slot-item.result (rw slots at c.loop-index-test.true) (rw slots at c.slot-item.is) in
    record { fits = omega (arith, fits.places, fits.few_places) }

pub loop-index-preserved : goal.loop-index-preserved
loop-index-preserved c =
    let i = c.loop-index.index in
    let items = c.as_slice-slot-items.result.now in
    let at : 1 + i ≡ i + 1 = omega arith in
    let more = numbered_more slot_openings 1 items i c.slot-item.result c.loop-index-test.true c.slot-item.is in
    c.in_ok-push_slot.ensures ∙ ap (λ openings. openings ++ slot_openings (i + 1) c.slot-item.result) c.loop-index.invariant
    ∙ ap (λ n. each_numbered slot_openings 1 (take i items) ++ slot_openings n c.slot-item.result) (sym at) ∙ sym more

pub returns-clause-few : goal.returns-clause-few
returns-clause-few c =
    let slots : c.as_slice-slot-items.result.now ≡ c.args.joint.now.slots = c.as_slice-slot-items.ensures ∙ ap (λ (j : Joint). j.slots) c.joint.view_is in
    let whole : c.loop-index.openings ≡ plain_openings c.args.joint.now =
    c.loop-index.invariant ∙ ap (each_numbered slot_openings 1) (take_all c.loop-index.index c.as_slice-slot-items.result.now c.loop-index-test.false ∙ slots) in
    omega (arith, ap length whole, openings_are_few c.args.joint.now (subst IsJoint c.joint.view_is c.joint.invariant))

pub returns-clause-kept : goal.returns-clause-kept
returns-clause-kept c =
    let slots : c.as_slice-slot-items.result.now ≡ c.args.joint.now.slots = c.as_slice-slot-items.ensures ∙ ap (λ (j : Joint). j.slots) c.joint.view_is in
    let whole : c.loop-index.openings ≡ plain_openings c.args.joint.now =
    c.loop-index.invariant ∙ ap (each_numbered slot_openings 1) (take_all c.loop-index.index c.as_slice-slot-items.result.now c.loop-index-test.false ∙ slots) in
    subst (All (OpeningKept c.args.joint.now)) (sym whole) (openings_kept c.args.joint.now (subst IsJoint c.joint.view_is c.joint.invariant))
