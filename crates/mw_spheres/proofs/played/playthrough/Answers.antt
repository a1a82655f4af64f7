use Rattle.std.proofs.Common.{◌≡◌, [], false, replicate, length, All, List, map, sym, ap, subst, ◌∙◌, arith}
use Rattle.std.specs.Prelude.{filter, IfOk}
use Rattle.std.proofs.lemmas.Grind.{common_steps}
use Rattle.std.proofs.lemmas.Result.{IfOk-weaker}
use Rattle.mw_model.specs.Seed.{Spot}
use Rattle.mw_multi.specs.Joint.{place_total}
use Rattle.mw_spheres.specs.Spots.{IsSpot, placement_table, spot_place}
use Rattle.mw_spheres.specs.Spheres.{listed}
use Rattle.mw_spheres.specs.Playthrough.{is_kept, IsThinned, IsPlaythrough, NoneToSpare}
use Rattle.mw_spheres.proofs.Playing.{spheres_are_spots, entries_within, played_is}
use Rattle.mw_spheres.proofs.Sparing.{none_to_spare}
use Rattle.mw_spheres.proofs.played.playthrough.Goals as goal

pub all_places-requires : goal.all_places-requires
all_places-requires c =
    let joint = c.args.joint.now in
    subst (All (All (IsSpot joint.slots))) (sym c.as_slice.ensures) (spheres_are_spots joint (placement_table joint c.args.placement.now) [] c.args.spheres.now c.requires.spheres)

pub mark-requires : goal.mark-requires
mark-requires c =
    let joint = c.args.joint.now in
    let spheres = c.args.spheres.now in
    let spots = spheres_are_spots joint (placement_table joint c.args.placement.now) [] spheres c.requires.spheres in
    let none : c.as_mut_slice-kept.result.now ≡ replicate (place_total joint.slots) false = grind (arith, common_steps) in
    let long : length c.as_mut_slice-kept.result.now ≡ place_total joint.slots = grind (arith, common_steps) in
    let places : c.as_slice-2.result.now ≡ map (spot_place joint.slots) (listed spheres) = c.as_slice-2.ensures.value ∙ c.in_ok-places.ensures ∙ ap (λ (ss : List (List Spot)). map (spot_place joint.slots) (listed ss)) c.as_slice.ensures in
    entries_within joint spheres c.as_slice-2.result.now (length c.as_mut_slice-kept.result.now) c.in_ok-full.ensures.joint spots places (omega arith)

pub thin_all-requires-clause-places : goal.thin_all-requires-clause-places
thin_all-requires-clause-places c =
    let joint = c.args.joint.now in
    let spheres = c.args.spheres.now in
    let spots = spheres_are_spots joint (placement_table joint c.args.placement.now) [] spheres c.requires.spheres in
    let places : c.as_slice-3.result.now ≡ map (spot_place joint.slots) (listed spheres) = c.as_slice-3.ensures.value ∙ c.in_ok-places.ensures ∙ ap (λ (ss : List (List Spot)). map (spot_place joint.slots) (listed ss)) c.as_slice.ensures in
    entries_within joint spheres c.as_slice-3.result.now (length c.in_ok-full.full) c.in_ok-full.ensures.joint spots places (omega (arith, c.in_ok-full.ensures.fits.size))

pub kept_spheres-requires : goal.kept_spheres-requires
kept_spheres-requires c =
    let joint = c.args.joint.now in
    subst (All (All (IsSpot joint.slots))) (sym c.as_slice-4.ensures) (spheres_are_spots joint (placement_table joint c.args.placement.now) [] c.args.spheres.now c.requires.spheres)

pub returns : goal.returns
returns c =
    let joint = c.args.joint.now in
    let puts = c.args.placement.now in
    let spheres = c.args.spheres.now in
    let none : c.as_mut_slice-kept.result.now ≡ replicate (place_total joint.slots) false = grind (arith, common_steps) in
    let size : length c.mark.new.kept ≡ place_total joint.slots = grind (arith, common_steps) in
    let places : c.as_slice-2.result.now ≡ map (spot_place joint.slots) (listed spheres) = c.as_slice-2.ensures.value ∙ c.in_ok-places.ensures ∙ ap (λ (ss : List (List Spot)). map (spot_place joint.slots) (listed ss)) c.as_slice.ensures in
    let same : c.as_slice-3.result.now ≡ c.as_slice-2.result.now = c.as_slice-3.ensures.value ∙ sym c.as_slice-2.ensures.value in
    let thinned : IsThinned joint c.in_ok-full.full c.as_slice-2.result.now c.mark.new.kept c.thin_all.new.kept =
    subst (λ ps. IsThinned joint c.in_ok-full.full ps c.mark.new.kept c.thin_all.new.kept) same c.in_ok-thin_all.ensures in
    let played : IfOk c.kept_spheres.result (IsPlaythrough joint puts spheres) =
    IfOk-weaker c.kept_spheres.result (λ (found : List (List Spot)). found ≡ map (filter (is_kept joint.slots c.thin_all.new.kept)) c.as_slice-4.result.now) (IsPlaythrough joint puts spheres)
    (λ found is. played_is joint puts spheres found c.in_ok-full.full c.as_mut_slice-kept.result.now c.mark.new.kept c.thin_all.new.kept c.as_slice-2.result.now (place_total joint.slots)
    c.in_ok-full.ensures.value none size places c.mark.ensures thinned (is ∙ ap (map (filter (is_kept joint.slots c.thin_all.new.kept))) c.as_slice-4.ensures))
    c.kept_spheres.ensures in
    record {
      played = played;
      spare = IfOk-weaker c.kept_spheres.result (IsPlaythrough joint puts spheres) (NoneToSpare joint puts) (λ found is. none_to_spare joint puts spheres found is) played;
    }
