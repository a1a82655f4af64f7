-- How many events and puts a joint can have.
use Rattle.std.proofs.Common.{ℕ, zero, suc, ◌-◌, ◌<◌, ◌≤◌, List, [], ◌∷◌, length, get_or, map, Option, None, Some, inl, inr, arith, add-one}
use Rattle.std.specs.Prelude.{All, filter}
use Rattle.std.specs.List.Sorted.{IsStrictlyIncreasing}
use Rattle.std.proofs.lemmas.Bool.{cases_lt}
use Rattle.std.proofs.lemmas.List.{get_or-map, length-append, length-map}
use Rattle.std.proofs.lemmas.List.Sums.{count_by-le-length, length-filter, sum_by-cons}
use Rattle.mw_multi.specs.World.{Location}
use Rattle.mw_multi.specs.Joint.{Slot, Joint, IsJoint, place_total, slot_places}
use Rattle.mw_multi.specs.Placement.{Put, put_place, IsPlacement}
use Rattle.mw_multi.specs.Steps.{location_place}
use Rattle.mw_multi.specs.Events.{event_at, events_among, slot_events, events_from, events_of, is_at_no_event, with_events}
use Rattle.mw_multi.proofs.Standing.{site_within}

-- ---- events

one_event : (number place : ℕ) (event : Option ℕ) → length (event_at number place event) ≤ 1
one_event number place None = omega arith
one_event number place (Some event) = omega arith

events_among-le : (number place : ℕ) (ls : List Location) → length (events_among number place ls) ≤ length ls
events_among-le number place [] = omega arith
events_among-le number place (l ∷ ls) =
    omega (arith, length-append (event_at number place l.event) (events_among number (suc place) ls), one_event number place l.event, events_among-le number (suc place) ls)

events_from-le : (number : ℕ) (slots : List Slot) → length (events_from number slots) ≤ place_total slots
events_from-le number [] = omega arith
events_from-le number (s ∷ slots) =
    omega (
      arith,
      length-append (slot_events number s) (events_from (suc number) slots),
      events_among-le number (location_place s 0) s.world.locations,
      events_from-le (suc number) slots,
      sum_by-cons slot_places s slots,
    )

-- no more events than places
pub events_are_few : (joint : Joint) → IsJoint joint → length (events_of joint) ≤ 200000
events_are_few joint kept = omega (arith, events_from-le 1 joint.slots, kept.places)

-- ---- puts

index-le : (xs : List ℕ) (k : ℕ) → IsStrictlyIncreasing xs → k < length xs → k ≤ get_or xs k 0
index-le xs zero rise h = omega arith
index-le xs (suc k) rise h =
    let before = index-le xs k rise (omega arith) in
    let step : get_or xs k 0 < get_or xs (suc k) 0 = rw add-one at (rise k (omega arith)) in
    omega arith

-- numbers that ascend are no more than those that they are below
pub rising-le : (xs : List ℕ) (n : ℕ) → IsStrictlyIncreasing xs → All (λ x. x < n) xs → length xs ≤ n
rising-le xs n rise below = elim (cases_lt 0 (length xs)) [
  | inl some ↦ omega (arith, index-le xs (length xs - 1) rise (omega arith), below (length xs - 1) 0 (omega arith))
  | inr none ↦ omega arith
]

-- no more puts than places
pub puts_are_few : (joint : Joint) (puts : List Put) → IsJoint joint → IsPlacement joint puts → length puts ≤ 200000
puts_are_few joint puts kept placement =
    let below : All (λ p. p < place_total joint.slots) (map put_place puts) = λ i d h.
    let within : i < length puts = omega (arith, length-map puts put_place) in
    let put : Put = record { place = 0; receiver = 0; item = 0 } in
    rw (get_or-map put_place puts i put d within) (site_within 1 joint.slots (get_or puts i put).place (placement.each i put within).place) in
    omega (arith, rising-le (map put_place puts) (place_total joint.slots) placement.ascend below, length-map puts put_place, kept.places)

pub with_events_are_few : (joint : Joint) (puts : List Put) → IsJoint joint → IsPlacement joint puts → length (with_events joint puts) ≤ 400000
with_events_are_few joint puts kept placement =
    omega (
      arith,
      length-append (events_of joint) (filter (is_at_no_event joint.slots) puts),
      events_are_few joint kept,
      length-filter (is_at_no_event joint.slots) puts,
      count_by-le-length (is_at_no_event joint.slots) puts,
      puts_are_few joint puts kept placement,
    )
