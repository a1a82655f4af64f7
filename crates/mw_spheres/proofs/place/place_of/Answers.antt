use Rattle.std.proofs.Common.{◌-◌, get_or, ap, subst, ◌∙◌, arith}
use Rattle.mw_model.specs.Seed.{Spot}
use Rattle.mw_multi.specs.Joint.{Joint, IsJoint}
use Rattle.mw_spheres.proofs.Locations.{known_spot}
use Rattle.mw_spheres.proofs.place.place_of.Goals as goal

pub location_place-requires-clause-fits : goal.location_place-requires-clause-fits
location_place-requires-clause-fits c =
    let joint = c.args.joint.now in
    let slot = c.index-as_slice-spot.result in
    let at = ap (λ (p : Spot). p.slot - 1) c.spot.view_is in
    let known = known_spot joint (subst IsJoint c.joint.view_is c.joint.invariant) c.args.spot c.requires c.as_slice.result.now slot
    (c.as_slice.ensures ∙ ap (λ (j : Joint). j.slots) c.joint.view_is) (c.index-as_slice-spot.is ∙ ap (λ k. get_or c.as_slice.result.now k slot) at) in
    omega (arith, known.fits, known.few)

pub returns-clause-value : goal.returns-clause-value
returns-clause-value c =
    let joint = c.args.joint.now in
    let slot = c.index-as_slice-spot.result in
    let at = ap (λ (p : Spot). p.slot - 1) c.spot.view_is in
    let known = known_spot joint (subst IsJoint c.joint.view_is c.joint.invariant) c.args.spot c.requires c.as_slice.result.now slot
    (c.as_slice.ensures ∙ ap (λ (j : Joint). j.slots) c.joint.view_is) (c.index-as_slice-spot.is ∙ ap (λ k. get_or c.as_slice.result.now k slot) at) in
    omega (arith, c.location_place.ensures, known.place, ap (λ (p : Spot). p.index) c.spot.view_is)

pub returns-clause-within : goal.returns-clause-within
returns-clause-within c =
    let joint = c.args.joint.now in
    let slot = c.index-as_slice-spot.result in
    let at = ap (λ (p : Spot). p.slot - 1) c.spot.view_is in
    let known = known_spot joint (subst IsJoint c.joint.view_is c.joint.invariant) c.args.spot c.requires c.as_slice.result.now slot
    (c.as_slice.ensures ∙ ap (λ (j : Joint). j.slots) c.joint.view_is) (c.index-as_slice-spot.is ∙ ap (λ k. get_or c.as_slice.result.now k slot) at) in
    omega (arith, c.location_place.ensures, known.fits, known.index, ap (λ (p : Spot). p.index) c.spot.view_is)
