use Rattle.std.proofs.Common.{◌≡◌, ◌+◌, get_or, ap, subst, arith, ◌∙◌}
use Rattle.mw_multi.specs.WorldKept.{IsWorld}
use Rattle.mw_reach.proofs.Slots.{entrance_start_fits}
use Rattle.mw_reach.proofs.build.add_entrances.Goals as goal

pub add_ruled-requires-clause-start : goal.add_ruled-requires-clause-start
add_ruled-requires-clause-start g c =
    let joint = c.args.joint.now in
    let slot = c.args.slot.now in
    let i = c.loop-i.i in
    let e = c.entrance-item.result in
    let kept : IsWorld slot.world = subst (λ s. IsWorld s.world) c.slot.view_is c.slot.invariant.world in
    let entrances : c.as_slice-entrance-items.result.now ≡ slot.world.entrances = c.as_slice-entrance-items.ensures ∙ ap (λ w. w.entrances) c.world.view_is ∙ ap (λ s. s.world.entrances) c.slot.view_is in
    let here : e ≡ get_or slot.world.entrances i e = rw entrances at c.entrance-item.is in
    entrance_start_fits joint c.args.index slot c.requires.slot kept c.args.first_rule c.requires.numbers i e (rw entrances at c.loop-i-test.true) here (c.slot.inside.first_place + c.entrance.inside.from)
    (omega (arith, ap (λ s. s.first_place) c.slot.view_is, ap (λ x. x.from) c.entrance.view_is))
