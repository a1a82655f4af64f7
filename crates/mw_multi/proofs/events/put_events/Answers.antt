use Rattle.std.proofs.Common.{◌≡◌, ℕ, suc, ◌+◌, List, Option, ◌++◌, length, take, take_all, refl, sym, ap, ap₂, ◌∙◌, subst, arith, append_assoc, append-nil}
use Rattle.std.specs.Prelude.{All}
use Rattle.mw_multi.specs.World.{World, Location}
use Rattle.mw_multi.specs.Joint.{Slot, Joint, IsJoint}
use Rattle.mw_multi.specs.Steps.{location_place}
use Rattle.mw_multi.specs.Placement.{Put, PutKept, IsPlaced}
use Rattle.mw_multi.specs.Events.{event_at, events_among, slot_events}
use Rattle.mw_multi.proofs.Sites.{known_slot, known_element, events_kept, events_next, same_slot}
use Rattle.mw_multi.proofs.events.put_events.Goals as goal

pub overflow_add-first : goal.overflow_add-first
overflow_add-first c =
    let s = c.index-as_slice-before.result in
    let known = known_slot c.args.joint.now c.args.before s c.as_slice.result.now (subst IsJoint c.joint.view_is c.joint.invariant)
    (c.as_slice.ensures ∙ ap (λ (j : Joint). j.slots) c.joint.view_is) c.requires.slot c.index-as_slice-before.is in
    let world : _ ≡ s.world = c.world.view_is ∙ ap (λ (u : Slot). u.world) c.slot.view_is in
    omega (arith, known.few, ap (λ (u : Slot). u.first_place) c.slot.view_is, c.len.ensures, ap (λ (w : World). length w.regions) world)

pub loop-index-init : goal.loop-index-init
loop-index-init c = record {
  put = λ puts h. subst (λ ps. IsPlaced c.args.joint.now ps c.args.placed.now) (sym (append-nil puts)) h;
  total = omega arith;
}

pub overflow_add-place : goal.overflow_add-place
overflow_add-place c =
    let s = c.index-as_slice-before.result in
    let known = known_slot c.args.joint.now c.args.before s c.as_slice.result.now (subst IsJoint c.joint.view_is c.joint.invariant)
    (c.as_slice.ensures ∙ ap (λ (j : Joint). j.slots) c.joint.view_is) c.requires.slot c.index-as_slice-before.is in
    let world : _ ≡ s.world = c.world.view_is ∙ ap (λ (u : Slot). u.world) c.slot.view_is in
    omega (
      arith,
      known.few,
      ap (λ (u : Slot). u.first_place) c.slot.view_is,
      c.len.ensures,
      ap (λ (w : World). length w.regions) world,
      c.loop-index-test.true,
      ap length c.as_slice-location-items.ensures,
      ap (λ (w : World). length w.locations) world,
    )

pub put_event-requires-clause-placed : goal.put_event-requires-clause-placed
put_event-requires-clause-placed c = (_, c.loop-index.invariant.put c.requires.placed.0 c.requires.placed.1)

pub put_event-requires-clause-room : goal.put_event-requires-clause-room
put_event-requires-clause-room c =
    let s = c.index-as_slice-before.result in
    let world : _ ≡ s.world = c.world.view_is ∙ ap (λ (u : Slot). u.world) c.slot.view_is in
    omega (
      arith,
      c.requires.room,
      c.loop-index.invariant.total,
      c.loop-index-test.true,
      ap length c.as_slice-location-items.ensures,
      ap (λ (w : World). length w.locations) c.world.view_is,
      c.slot.invariant.world.locations.count,
    )

pub returns-clause-more : goal.returns-clause-more
returns-clause-more c =
    omega (
      arith,
      c.loop-index.invariant.total,
      c.loop-index.auto.index-end,
      ap length c.as_slice-location-items.ensures,
      ap (λ (w : World). length w.locations) c.world.view_is,
      c.slot.invariant.world.locations.count,
    )

pub put_event-requires-clause-kept : goal.put_event-requires-clause-kept
put_event-requires-clause-kept c =
    let s = c.index-as_slice-before.result in
    let l = c.location-item.result in
    let i = c.loop-index.index in
    let known = known_slot c.args.joint.now c.args.before s c.as_slice.result.now (subst IsJoint c.joint.view_is c.joint.invariant)
    (c.as_slice.ensures ∙ ap (λ (j : Joint). j.slots) c.joint.view_is) c.requires.slot c.index-as_slice-before.is in
    let world : _ ≡ s.world = c.world.view_is ∙ ap (λ (u : Slot). u.world) c.slot.view_is in
    let locations : c.as_slice-location-items.result.now ≡ s.world.locations = c.as_slice-location-items.ensures ∙ ap (λ (w : World). w.locations) world in
    let number : suc c.args.before ≡ c.args.before + 1 = omega arith in
    let kept = events_kept c.args.joint.now (suc c.args.before) s i l c.location.inside.event (c.slot.inside.first_place + c.len.result + i) known.kept known.found
    (known_element s.world.locations c.as_slice-location-items.result.now i l locations c.loop-index-test.true c.location-item.is)
    (sym (ap (λ (u : Location). u.event) c.location.view_is))
    (omega (arith, ap (λ (u : Slot). u.first_place) c.slot.view_is, c.len.ensures, ap (λ (w : World). length w.regions) world)) in
    subst (λ n. All (PutKept c.args.joint.now) (event_at n (c.slot.inside.first_place + c.len.result + i) c.location.inside.event)) number kept

pub loop-index-preserved : goal.loop-index-preserved
loop-index-preserved c =
    let l = c.location-item.result in
    let i = c.loop-index.index in
    let items = c.as_slice-location-items.result.now in
    let number = c.args.before + 1 in
    let first = c.slot.inside.first_place + c.len.result in
    let slots = c.args.joint.now.slots in
    let next : events_among number first (take (i + 1) items) ≡ events_among number first (take i items) ++ event_at number (first + i) c.location.inside.event =
    events_next number first items i l (known_element items items i l refl c.loop-index-test.true c.location-item.is)
    ∙ ap (λ (o : Option ℕ). events_among number first (take i items) ++ event_at number (first + i) o) (sym (ap (λ (u : Location). u.event) c.location.view_is)) in
    let all : (puts : List Put) → (puts ++ events_among number first (take i items)) ++ event_at number (first + i) c.location.inside.event ≡ puts ++ events_among number first (take (i + 1) items) = λ puts.
    append_assoc puts (events_among number first (take i items)) (event_at number (first + i) c.location.inside.event) ∙ ap (λ es. puts ++ es) (sym next) in
    record {
      put = λ puts h.
          subst (λ ps. IsPlaced c.args.joint.now ps c.put_event.new.placed) (all puts)
          (c.in_ok-put_event.ensures.put (puts ++ events_among number first (take i items)) (c.loop-index.invariant.put puts h));
      total = omega (arith, c.loop-index.invariant.total, c.in_ok-put_event.ensures.more);
    }

pub returns-clause-put : goal.returns-clause-put
returns-clause-put c = λ puts other e h.
    let s = c.index-as_slice-before.result in
    let items = c.as_slice-location-items.result.now in
    let number = c.args.before + 1 in
    let first = c.slot.inside.first_place + c.len.result in
    let slots = c.args.joint.now.slots in
    let known = known_slot c.args.joint.now c.args.before s c.as_slice.result.now (subst IsJoint c.joint.view_is c.joint.invariant)
    (c.as_slice.ensures ∙ ap (λ (j : Joint). j.slots) c.joint.view_is) c.requires.slot c.index-as_slice-before.is in
    let world : _ ≡ s.world = c.world.view_is ∙ ap (λ (u : Slot). u.world) c.slot.view_is in
    let locations : items ≡ s.world.locations = c.as_slice-location-items.ensures ∙ ap (λ (w : World). w.locations) world in
    let same : s ≡ other = same_slot slots c.args.before s other known.found e in
    let begins : first ≡ location_place s 0 = omega (arith, ap (λ (u : Slot). u.first_place) c.slot.view_is, c.len.ensures, ap (λ (w : World). length w.regions) world) in
    let all : events_among number first (take c.loop-index.index items) ≡ slot_events number other =
    ap (events_among number first) (take_all c.loop-index.index items c.loop-index-test.false) ∙ ap₂ (events_among number) begins locations ∙ ap (slot_events number) same in
    subst (λ es. IsPlaced c.args.joint.now (puts ++ es) c.loop-index.placed) all (c.loop-index.invariant.put puts h)
