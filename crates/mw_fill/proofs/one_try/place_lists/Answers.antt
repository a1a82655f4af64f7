use Rattle.std.proofs.Common.{◌≡◌, All, map, sym, ap, subst, ◌∙◌}
use Rattle.mw_multi.specs.Joint.{IsJoint}
use Rattle.mw_multi.specs.Placement.{IsPlacement}
use Rattle.mw_fill.specs.Try.{placement_of}
use Rattle.mw_fill.specs.Kept.{OpeningKept, IsHeldFor, end_held}
use Rattle.mw_fill.proofs.Locations.{openings_kept}
use Rattle.mw_fill.specs.Openings.{regular}
use Rattle.mw_fill.proofs.Asked.{asks_all, asks_passed}
use Rattle.mw_fill.proofs.Trying.{places_within}
use Rattle.mw_fill.proofs.Ascending.{held_placement, placement_kept}
use Rattle.mw_fill.proofs.one_try.place_lists.Goals as goal

pub placement_from-requires : goal.placement_from-requires
placement_from-requires g c =
    let joint = c.args.joint.now in
    let end = c.in_ok-held.ensures.answer in
    let held = subst (IsHeldFor joint end.0) (sym c.as_slice.ensures.value) end.1 in
    let there : All (OpeningKept joint) c.args.openings.now =
    subst (All (OpeningKept joint)) (sym c.requires.openings) (openings_kept joint (subst IsJoint c.joint.view_is c.joint.invariant)) in
    record { within = places_within joint end.0 c.as_slice.result.now c.args.openings.now held there }

pub returns-clause-answer : goal.returns-clause-answer
returns-clause-answer g c =
    let end = c.in_ok-held.ensures.answer in
    let held = subst (IsHeldFor c.args.joint.now end.0) (sym c.as_slice.ensures.value) end.1 in
    (end.0, end.2, c.in_ok-placement.ensures ∙ ap (map (end_held c.as_slice.result.now)) c.requires.openings ∙ held_placement end.0 c.as_slice.result.now _ held.entries)

pub returns-clause-placement : goal.returns-clause-placement
returns-clause-placement g c =
    let joint = c.args.joint.now in
    let end = c.in_ok-held.ensures.answer in
    let held = subst (IsHeldFor joint end.0) (sym c.as_slice.ensures.value) end.1 in
    let is : c.in_ok-placement.placement ≡ placement_of joint end.0 = c.in_ok-placement.ensures ∙ ap (map (end_held c.as_slice.result.now)) c.requires.openings ∙ held_placement end.0 c.as_slice.result.now _ held.entries in
    subst (IsPlacement joint) (sym is) (placement_kept joint (subst IsJoint c.joint.view_is c.joint.invariant) end.0 end.1.kept)

pub returns-in_err-held-clause-steps : goal.returns-in_err-held-clause-steps
returns-in_err-held-clause-steps g c =
    let lists = c.args.lists.now in
    asks_passed c.args.joint.now (regular lists.openings) lists.asked _ c.from_residual.result _ _ c.in_err-held.ensures.steps c.from_residual.ensures.1

pub returns-in_err-placement-clause-steps : goal.returns-in_err-placement-clause-steps
returns-in_err-placement-clause-steps g c =
    let lists = c.args.lists.now in
    asks_all c.args.joint.now (regular lists.openings) lists.asked c.from_residual-in_err-placement.result _ _ c.in_ok-held.ensures.steps
