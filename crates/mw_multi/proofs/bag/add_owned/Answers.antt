use Rattle.std.proofs.Common.{◌≡◌, ◌<◌, ◌∙◌, sym, ap, subst, length, arith}
use Rattle.std.specs.Prelude.{Some, Option, All}
use Rattle.std.specs.Option.{option_copied}
use Rattle.mw_multi.specs.Joint.{Slot, Joint, slot_at, world_of, slot_items, item_total}
use Rattle.mw_multi.proofs.Counts.{items_bound, entries_within}
use Rattle.mw_multi.proofs.Standing.{numbered_slot}
use Rattle.mw_multi.proofs.bag.add_owned.Goals as goal

pub add_entries-requires-clause-few : goal.add_entries-requires-clause-few
add_entries-requires-clause-few c =
    omega (arith, c.requires.size, ap (λ (j : Joint). item_total j.slots) c.joint.view_is, items_bound c.joint.inside.slots c.joint.invariant.each, c.joint.invariant.few)

pub add_entries-requires-clause-within : goal.add_entries-requires-clause-within
add_entries-requires-clause-within c =
    let slots = c.joint.inside.slots in
    let slot = c.in-Some.slot.now in
    let same : c.as_slice.result.now ≡ c.args.joint.now.slots = c.as_slice.ensures ∙ ap (λ (j : Joint). j.slots) c.joint.view_is in
    let found : slot_at slots c.args.owner ≡ Some slot = ap (λ s. slot_at s c.args.owner) (sym c.as_slice.ensures) ∙ sym c.slot_of.ensures ∙ ap option_copied c.in-Some.is in
    let known : slot_at c.args.joint.now.slots c.args.owner ≡ Some slot = ap (λ s. slot_at s c.args.owner) (sym (ap (λ (j : Joint). j.slots) c.joint.view_is)) ∙ found in
    let fits = numbered_slot slots c.args.owner slot c.joint.invariant.numbered found in
    let total = ap (λ (j : Joint). item_total j.slots) c.joint.view_is in
    let first = ap (λ (s : Slot). s.first_item) c.slot.view_is in
    let inside = subst (λ (o : Option Slot). All (λ e. e.item < length (world_of o).items) c.args.entries.now) known c.requires.fits in
    entries_within c.slot.inside.first_item (slot_items slot) (length c.args.bag.now) c.args.entries.now (omega (arith, fits.items_fit, c.requires.size, total, first)) inside
