use Rattle.std.proofs.Common.{◌≡◌, ◌+◌, ◌++◌, ◌∷◌, [], take, sym, ap, ap₂, ◌∙◌}
use Rattle.std.proofs.lemmas.List.{take_more}
use Rattle.mw_multi.specs.Placement.{numbers_at}
use Rattle.mw_spheres.specs.Spots.{IsSpot, items_at}
use Rattle.mw_spheres.proofs.Locations.{all_at}
use Rattle.mw_spheres.proofs.Taking.{items_push}
use Rattle.mw_spheres.proofs.sphere.items_of.Goals as goal

pub place_of-requires : goal.place_of-requires
place_of-requires c = all_at (IsSpot c.args.joint.now.slots) c.args.sphere.now c.loop-spot.spot-index c.spot-item.result c.requires.spots c.loop-spot-test.true c.spot-item.is

pub loop-spot-preserved : goal.loop-spot-preserved
loop-spot-preserved c =
    let slots = c.args.joint.now.slots in
    let table = c.args.table.now in
    let sphere = c.args.sphere.now in
    let i = c.loop-spot.spot-index in
    let spot = c.spot-item.result in
    let more : take (i + 1) sphere ≡ take i sphere ++ spot ∷ [] = take_more sphere i spot c.loop-spot-test.true ∙ ap (λ s. take i sphere ++ s ∷ []) (sym c.spot-item.is) in
    c.in_ok-push_items.ensures
    ∙ ap₂ (λ xs ys. xs ++ ys) c.loop-spot.invariant (c.at.ensures ∙ ap (numbers_at table) c.place_of.ensures.value)
    ∙ sym (ap (items_at slots table) more ∙ items_push slots table (take i sphere) spot)
