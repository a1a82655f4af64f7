use Rattle.std.proofs.Common.{◌≡◌, ℕ, ◌<◌, [], ◌+◌, All, length, take, sym, ap, subst, ◌∙◌, arith}
use Rattle.std.proofs.lemmas.List.{take_all}
use Rattle.std.proofs.lemmas.List.Elements.{All-filter}
use Rattle.mw_rules.specs.Holds.{bag_of, places_of}
use Rattle.mw_multi.specs.Joint.{Joint, IsJoint, place_total, item_total, slot_places}
use Rattle.mw_multi.proofs.Sites.{some_slot}
use Rattle.mw_reach.specs.Reach.{times_in}
use Rattle.mw_reach.specs.Reached.{counts_in, flags_in, places_in}
use Rattle.mw_reach.proofs.Placing.{placed_for}
use Rattle.mw_spheres.specs.Spots.{IsSpot, spots_from, spots_of, items_at}
use Rattle.mw_spheres.specs.Spheres.{hand_of, is_due}
use Rattle.mw_multi.specs.Steps.{steps_of}
use Rattle.mw_reach.proofs.SameLeast.{IsLeast-same}
use Rattle.mw_spheres.specs.Gathering.{Gathered}
use Rattle.mw_spheres.proofs.Hand.{first_place_is, end_is, settled_without, items_within, has_more, room_for, sphere_gathered, hand_gathered}
use Rattle.mw_spheres.proofs.Locations.{spots_are, spots_next}
use Rattle.mw_spheres.proofs.sphere.next_sphere.Goals as goal

pub loop-before-preserved : goal.loop-before-preserved
loop-before-preserved c =
    let joint = c.args.joint.now in
    let kept : IsJoint joint = subst IsJoint c.joint.view_is c.joint.invariant in
    let k = c.loop-before.before in
    let w = places_in c.args.reached.now in
    let found = some_slot joint.slots k (omega (arith, c.loop-before-test.true, c.len-slots.ensures, ap (λ (j : Joint). length j.slots) c.joint.view_is)) in
    let s = found.0 in
    let first = first_place_is joint.slots k s kept.numbered found.1 in
    let next = c.in_ok-visit_slot.ensures.gathered s c.args.taken.now c.args.bag.now (spots_from 1 (take k joint.slots)) (place_total (take k joint.slots)) found.1 (omega arith) c.loop-before.invariant.gathered in
    record {
      room = c.visit_slot.ensures.room;
      size = c.visit_slot.ensures.size ∙ c.loop-before.invariant.size;
      gathered = subst (λ b. Gathered joint.slots c.args.table.now w c.args.taken.now c.args.bag.now (spots_from 1 (take (k + 1) joint.slots)) b c.visit_slot.new.taken c.visit_slot.new.bag c.visit_slot.new.sphere)
          (end_is joint.slots k s kept.numbered found.1)
          (subst (λ ss. Gathered joint.slots c.args.table.now w c.args.taken.now c.args.bag.now ss (s.first_place + slot_places s) c.visit_slot.new.taken c.visit_slot.new.bag c.visit_slot.new.sphere)
          (sym (spots_next joint.slots k s found.1)) next);
    }

pub returns-clause-sphere : goal.returns-clause-sphere
returns-clause-sphere c = λ earlier hand.
    let joint = c.args.joint.now in
    let table = c.args.table.now in
    let w = places_in c.args.reached.now in
    let all = take_all c.loop-before.before joint.slots (omega (arith, c.loop-before-test.false, c.len-slots.ensures, ap (λ (j : Joint). length j.slots) c.joint.view_is)) in
    let gathered : Gathered joint.slots table w c.args.taken.now c.args.bag.now (spots_of joint) (place_total (take c.loop-before.before joint.slots)) c.loop-before.taken c.loop-before.bag c.loop-before.sphere =
    subst (λ ss. Gathered joint.slots table w c.args.taken.now c.args.bag.now (spots_from 1 ss) (place_total (take c.loop-before.before joint.slots)) c.loop-before.taken c.loop-before.bag c.loop-before.sphere) all c.loop-before.invariant.gathered in
    let least = IsLeast-same (steps_of joint) (bag_of c.args.bag.now) (hand_of joint table earlier) [] w hand.counts c.requires.least.least in
    sphere_gathered joint table w c.args.taken.now c.args.bag.now _ c.loop-before.taken c.loop-before.bag c.loop-before.sphere earlier gathered hand least

pub returns-clause-hand : goal.returns-clause-hand
returns-clause-hand c = λ earlier hand.
    let joint = c.args.joint.now in
    let table = c.args.table.now in
    let w = places_in c.args.reached.now in
    let all = take_all c.loop-before.before joint.slots (omega (arith, c.loop-before-test.false, c.len-slots.ensures, ap (λ (j : Joint). length j.slots) c.joint.view_is)) in
    let gathered : Gathered joint.slots table w c.args.taken.now c.args.bag.now (spots_of joint) (place_total (take c.loop-before.before joint.slots)) c.loop-before.taken c.loop-before.bag c.loop-before.sphere =
    subst (λ ss. Gathered joint.slots table w c.args.taken.now c.args.bag.now (spots_from 1 ss) (place_total (take c.loop-before.before joint.slots)) c.loop-before.taken c.loop-before.bag c.loop-before.sphere) all c.loop-before.invariant.gathered in
    hand_gathered joint table w c.args.taken.now c.args.bag.now _ c.loop-before.taken c.loop-before.bag c.loop-before.sphere earlier gathered hand

pub items_of-requires-clause-spots : goal.items_of-requires-clause-spots
items_of-requires-clause-spots c =
    let joint = c.args.joint.now in
    let table = c.args.table.now in
    let w = places_in c.args.reached.now in
    let all = take_all c.loop-before.before joint.slots (omega (arith, c.loop-before-test.false, c.len-slots.ensures, ap (λ (j : Joint). length j.slots) c.joint.view_is)) in
    let gathered : Gathered joint.slots table w c.args.taken.now c.args.bag.now (spots_of joint) (place_total (take c.loop-before.before joint.slots)) c.loop-before.taken c.loop-before.bag c.loop-before.sphere =
    subst (λ ss. Gathered joint.slots table w c.args.taken.now c.args.bag.now (spots_from 1 ss) (place_total (take c.loop-before.before joint.slots)) c.loop-before.taken c.loop-before.bag c.loop-before.sphere) all c.loop-before.invariant.gathered in
    subst (All (IsSpot joint.slots)) (sym (c.as_slice.ensures ∙ gathered.due)) (All-filter (is_due joint.slots table w (places_of c.args.taken.now)) (IsSpot joint.slots) (spots_of joint) (spots_are joint))

pub go_on-requires-clause-more : goal.go_on-requires-clause-more
go_on-requires-clause-more c =
    let joint = c.args.joint.now in
    subst (All (λ i. i < item_total joint.slots)) (sym (c.as_slice-2.ensures ∙ c.in_ok-items.ensures)) (items_within joint c.args.table.now c.requires.table c.as_slice.result.now)

pub go_on-requires-clause-placed : goal.go_on-requires-clause-placed
go_on-requires-clause-placed c = placed_for c.args.joint.now (subst IsJoint c.joint.view_is c.joint.invariant) [] c.args.nothing.now c.requires.nothing

pub go_on-requires-clause-room : goal.go_on-requires-clause-room
go_on-requires-clause-room c =
    let joint = c.args.joint.now in
    let table = c.args.table.now in
    let w = places_in c.args.reached.now in
    let all = take_all c.loop-before.before joint.slots (omega (arith, c.loop-before-test.false, c.len-slots.ensures, ap (λ (j : Joint). length j.slots) c.joint.view_is)) in
    let gathered : Gathered joint.slots table w c.args.taken.now c.args.bag.now (spots_of joint) (place_total (take c.loop-before.before joint.slots)) c.loop-before.taken c.loop-before.bag c.loop-before.sphere =
    subst (λ ss. Gathered joint.slots table w c.args.taken.now c.args.bag.now (spots_from 1 ss) (place_total (take c.loop-before.before joint.slots)) c.loop-before.taken c.loop-before.bag c.loop-before.sphere) all c.loop-before.invariant.gathered in
    let items : c.as_slice-2.result.now ≡ items_at joint.slots table c.loop-before.sphere = c.as_slice-2.ensures ∙ c.in_ok-items.ensures ∙ ap (items_at joint.slots table) c.as_slice.ensures in
    let counted : (i : ℕ) → bag_of c.loop-before.bag i ≡ bag_of c.args.bag.now i + times_in i c.as_slice-2.result.now = λ i. rw items (gathered.counts i) in
    room_for joint c.args.nothing.now table c.requires.nothing c.args.bag.now c.loop-before.bag c.as_slice-2.result.now counted c.loop-before.taken (flags_in c.args.reached.now) (counts_in c.args.reached.now) c.requires.least c.loop-before.invariant.room

pub returns-clause-least : goal.returns-clause-least
returns-clause-least c =
    let joint = c.args.joint.now in
    let table = c.args.table.now in
    let w = places_in c.args.reached.now in
    let all = take_all c.loop-before.before joint.slots (omega (arith, c.loop-before-test.false, c.len-slots.ensures, ap (λ (j : Joint). length j.slots) c.joint.view_is)) in
    let gathered : Gathered joint.slots table w c.args.taken.now c.args.bag.now (spots_of joint) (place_total (take c.loop-before.before joint.slots)) c.loop-before.taken c.loop-before.bag c.loop-before.sphere =
    subst (λ ss. Gathered joint.slots table w c.args.taken.now c.args.bag.now (spots_from 1 ss) (place_total (take c.loop-before.before joint.slots)) c.loop-before.taken c.loop-before.bag c.loop-before.sphere) all c.loop-before.invariant.gathered in
    let items : c.as_slice-2.result.now ≡ items_at joint.slots table c.loop-before.sphere = c.as_slice-2.ensures ∙ c.in_ok-items.ensures ∙ ap (items_at joint.slots table) c.as_slice.ensures in
    let counted : (i : ℕ) → bag_of c.loop-before.bag i ≡ bag_of c.args.bag.now i + times_in i c.as_slice-2.result.now = λ i. rw items (gathered.counts i) in
    let into = c.go_on.new.into in
    settled_without joint c.loop-before.bag c.args.nothing.now (flags_in into) (counts_in into) c.requires.nothing
    (c.go_on.ensures.least (bag_of c.args.bag.now) (bag_of c.loop-before.bag) [] c.requires.least (has_more joint c.args.nothing.now table c.requires.nothing c.args.bag.now c.loop-before.bag c.as_slice-2.result.now counted w))
