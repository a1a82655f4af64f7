use Rattle.std.proofs.Common.{◌≡◌, ◌∙◌, sym, ap, arith}
use Rattle.std.specs.Prelude.{Some}
use Rattle.std.specs.Option.{option_copied}
use Rattle.mw_multi.specs.Joint.{slot_at}
use Rattle.mw_multi.proofs.Counts.{items_bound}
use Rattle.mw_multi.proofs.Standing.{numbered_slot}
use Rattle.mw_multi.proofs.receivers.push_number.Goals as goal

pub number_in-requires : goal.number_in-requires
number_in-requires c =
    let slots = c.joint.inside.slots in
    let found : slot_at slots c.args.owner ≡ Some c.in-Some.slot.now = ap (λ s. slot_at s c.args.owner) (sym c.as_slice.ensures) ∙ sym c.slot_of.ensures ∙ ap option_copied c.in-Some.is in
    let fits = numbered_slot slots c.args.owner c.in-Some.slot.now c.joint.invariant.numbered found in
    omega (arith, fits.items_fit, c.joint.invariant.few, items_bound slots c.joint.invariant.each)
