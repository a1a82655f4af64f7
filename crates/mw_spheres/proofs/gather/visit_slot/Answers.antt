use Rattle.std.proofs.Common.{◌≡◌, suc, ◌+◌, ◌++◌, ◌∷◌, [], List, length, map, sym, ap, subst, ◌∙◌, arith}
use Rattle.std.specs.List.{range_with_len}
use Rattle.std.proofs.lemmas.List.{append_assoc}
use Rattle.std.proofs.lemmas.List.FromFn.{map-range_with_len_more}
use Rattle.mw_model.specs.Seed.{Spot}
use Rattle.mw_multi.specs.Joint.{Slot, Joint, slot_places}
use Rattle.mw_multi.specs.World.{World}
use Rattle.mw_multi.specs.Steps.{location_place}
use Rattle.mw_multi.specs.Placement.{slot_at}
use Rattle.mw_reach.specs.Reached.{places_in}
use Rattle.mw_spheres.specs.Spots.{spot_at, spot_place, place_in, slot_spots}
use Rattle.mw_spheres.specs.Gathering.{Gathered}
use Rattle.mw_spheres.proofs.Locations.{slot_read}
use Rattle.mw_spheres.proofs.gather.visit_slot.Goals as goal

pub loop-index-preserved : goal.loop-index-preserved
loop-index-preserved c = record {
  room = c.visit.ensures.room;
  size = c.visit.ensures.size ∙ c.loop-index.invariant.size;
  gathered = λ s first start spots bound found h before.
      let slots = c.args.joint.now.slots in
      let i = c.loop-index.index in
      let number = c.args.before + 1 in
      let front : List Spot = map (spot_at number) (range_with_len 0 i) in
      let suc_is : number ≡ suc c.args.before = omega arith in
      let at : spot_place slots (spot_at number i) ≡ location_place s i = ap (λ o. place_in o i) (ap (slot_at slots) suc_is ∙ found) in
      let next = c.in_ok-visit.ensures.gathered first start (spots ++ front) (location_place s i) (omega arith) (c.loop-index.invariant.gathered s first start spots bound found h before) in
      let spots_are : (spots ++ front) ++ spot_at number i ∷ [] ≡ spots ++ map (spot_at number) (range_with_len 0 (i + 1)) =
      append_assoc spots front (spot_at number i ∷ []) ∙ ap (λ xs. spots ++ xs) (sym (map-range_with_len_more (spot_at number) 0 i i (omega arith))) in
      let bound_is : spot_place slots (spot_at number i) + 1 ≡ location_place s (i + 1) = omega arith in
      subst (λ b. Gathered slots c.args.table.now (places_in c.args.reached.now) first start (spots ++ map (spot_at number) (range_with_len 0 (i + 1))) b c.visit.new.taken c.visit.new.bag c.visit.new.sphere) bound_is
      (subst (λ xs. Gathered slots c.args.table.now (places_in c.args.reached.now) first start xs (spot_place slots (spot_at number i) + 1) c.visit.new.taken c.visit.new.bag c.visit.new.sphere) spots_are next);
}

pub returns-clause-gathered : goal.returns-clause-gathered
returns-clause-gathered c = λ s first start spots bound found h before.
    let slots = c.args.joint.now.slots in
    let i = c.loop-index.index in
    let number = c.args.before + 1 in
    let same : c.index-as_slice-before.result ≡ s =
    slot_read slots c.args.before s c.index-as_slice-before.result c.as_slice.result.now (c.as_slice.ensures ∙ ap (λ (j : Joint). j.slots) c.joint.view_is) c.index-as_slice-before.is found in
    let world : _ ≡ s.world = c.world.view_is ∙ ap (λ (u : Slot). u.world) (c.slot.view_is ∙ same) in
    let many : i ≡ length s.world.locations = omega (arith, c.loop-index-test.false, c.loop-index.auto.index-end, c.len-index-end.ensures, ap (λ (w : World). length w.locations) world) in
    let all = c.loop-index.invariant.gathered s first start spots bound found h before in
    let bound_is : location_place s i ≡ s.first_place + slot_places s = omega arith in
    subst (λ b. Gathered slots c.args.table.now (places_in c.args.reached.now) first start (spots ++ slot_spots number s) b c.loop-index.taken c.loop-index.bag c.loop-index.sphere) bound_is
    (subst (λ n. Gathered slots c.args.table.now (places_in c.args.reached.now) first start (spots ++ map (spot_at number) (range_with_len 0 n)) (location_place s i) c.loop-index.taken c.loop-index.bag c.loop-index.sphere) many all)
