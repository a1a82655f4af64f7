use Rattle.std.proofs.Common.{◌≡◌, Some, ap, sym, ◌∙◌, arith}
use Rattle.std.specs.Option.{option_copied}
use Rattle.mw_multi.specs.Joint.{Joint, place_total}
use Rattle.mw_multi.specs.Placement.{slot_at}
use Rattle.mw_multi.proofs.Standing.{numbered_slot}
use Rattle.mw_seeds.proofs.played_lines.add_spot.Goals as goal

pub add_found-requires-clause-fits : goal.add_found-requires-clause-fits
add_found-requires-clause-fits c =
    let found : slot_at c.joint.inside.slots c.spot.inside.slot ≡ Some c.in-Some.slot.now = ap (λ s. slot_at s c.spot.inside.slot) (sym c.as_slice.ensures) ∙ sym c.slot_of.ensures ∙ ap option_copied c.in-Some.is in
    let fits = numbered_slot c.joint.inside.slots c.spot.inside.slot c.in-Some.slot.now c.joint.invariant.numbered found in
    omega (arith, fits.places_fit, c.joint.invariant.places)

pub add_found-requires-clause-within : goal.add_found-requires-clause-within
add_found-requires-clause-within c =
    let found : slot_at c.joint.inside.slots c.spot.inside.slot ≡ Some c.in-Some.slot.now = ap (λ s. slot_at s c.spot.inside.slot) (sym c.as_slice.ensures) ∙ sym c.slot_of.ensures ∙ ap option_copied c.in-Some.is in
    let fits = numbered_slot c.joint.inside.slots c.spot.inside.slot c.in-Some.slot.now c.joint.invariant.numbered found in
    omega (arith, fits.places_fit, c.requires, ap (λ (j : Joint). place_total j.slots) c.joint.view_is)
