use Rattle.std.proofs.Common.{◌≡◌, ◌++◌, ◌+◌, ◌<◌, None, get_or, slice_index_or, length, take, ap, ◌∙◌, append_assoc, arith, sym}
use Rattle.std.proofs.lemmas.List.{get_or_read}
use Rattle.mw_multi.specs.Joint.{Slot}
use Rattle.mw_multi.specs.Steps.{location_place}
use Rattle.mw_multi.specs.World.{World}
use Rattle.mw_multi.specs.Numbered.{each_numbered}
use Rattle.mw_multi.proofs.Numbered.{numbered_more}
use Rattle.mw_seeds.specs.SeedFile.{held_where, location_held}
use Rattle.mw_seeds.proofs.seed_locations.push_slot.Goals as goal

pub loop-index-preserved : goal.loop-index-preserved
loop-index-preserved c =
    let a = c.args in
    let i = c.loop-index.index in
    let items = c.as_slice-location-items.result.now in
    let f = location_held a.joint.now (λ p. slice_index_or a.stands.now p None) a.finder a.slot.now in
    let front = each_numbered f 0 (take i items) in
    let l = c.location-item.result in
    let put = c.index-stands-location_place.result in
    let items_are : items ≡ a.slot.now.world.locations = c.as_slice-location-items.ensures ∙ ap (λ (w : World). w.locations) (c.world.view_is ∙ ap (λ (s : Slot). s.world) c.slot.view_is) in
    let inside : c.location_place.result < length a.stands.now = omega (arith, c.location_place.ensures, c.requires.within, c.loop-index-test.true, ap length items_are) in
    let put_is : put ≡ slice_index_or a.stands.now (location_place a.slot.now i) None =
    get_or_read a.stands.now c.location_place.result put inside c.index-stands-location_place.is None ∙ ap (λ k. get_or a.stands.now k None) c.location_place.ensures in
    let at : 0 + i ≡ i = omega arith in
    let more = numbered_more f 0 items i l c.loop-index-test.true c.location-item.is in
    c.in_ok-push_location.ensures ∙ ap (λ held. held ++ held_where a.joint.now a.finder l.id put) c.loop-index.invariant
    ∙ append_assoc a.held.now.items front (held_where a.joint.now a.finder l.id put)
    ∙ ap (λ held. a.held.now.items ++ held) (ap (λ p. front ++ held_where a.joint.now a.finder l.id p) put_is ∙ ap (λ n. front ++ f n l) (sym at) ∙ sym more)
