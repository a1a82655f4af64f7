-- Each place where something stands is a location of the tables.
use Rattle.std.proofs.Common.{◌≡◌, ℕ, zero, suc, ◌+◌, ◌-◌, ◌<◌, ◌≤◌, true, cond, eqb, List, [], ◌∷◌, ◌++◌, length, All, Some, refl, sym, ap, subst, ◌∙◌, inl, inr, arith}
use Rattle.std.specs.Prelude.{filter, flat_map, is_some, nat_lt, option_map, slice_get}
use Rattle.std.proofs.lemmas.Bool.{cases_Bool, eqb-true, false≢true}
use Rattle.std.proofs.lemmas.List.{get_or_append_left, get_or-append-add, length-append}
use Rattle.std.proofs.lemmas.List.Elements.{All-nil, All-append, All-filter}
use Rattle.std.proofs.lemmas.List.FromFn.{get_or-map-range_with_len, length-map-range_with_len}
use Rattle.mw_model.specs.Seed.{Spot}
use Rattle.mw_multi.specs.World.{Location}
use Rattle.mw_multi.specs.Joint.{Slot, Joint, IsJoint, AreNumbered, slot_places, slot_items}
use Rattle.mw_multi.specs.Steps.{location_place}
use Rattle.mw_multi.specs.Placement.{Put, PutKept, IsPlacement, site_of, site_in, site_from, site_at, slot_at, stands_at, standing, put_numbers}
use Rattle.mw_multi.specs.Events.{event_at, events_among, slot_events, events_from, events_of, is_at_no_event, with_events}
use Rattle.mw_multi.proofs.Sites.{events_kept}
use Rattle.mw_multi.proofs.Standing.{nat_lt_false}
use Rattle.mw_spheres.specs.Spots.{spot_at, spot_place, place_in, slot_spots, spots_from, spots_of}

-- ---- what is put is put at locations

events_among_kept : (j : Joint) (number : ℕ) (s : Slot) (i : ℕ) (rest : List Location) → IsJoint j → slot_at j.slots number ≡ Some s
    → ((k : ℕ) (l : Location) → slice_get rest k ≡ Some l → slice_get s.world.locations (i + k) ≡ Some l) → All (PutKept j) (events_among number (location_place s i) rest)
events_among_kept j number s i [] kept at there = All-nil (PutKept j)
events_among_kept j number s i (l ∷ rest) kept at there =
    let here : i + 0 ≡ i = omega arith in
    let next : location_place s (suc i) ≡ suc (location_place s i) = omega arith in
    All-append (PutKept j) (event_at number (location_place s i) l.event) (events_among number (suc (location_place s i)) rest)
    (events_kept j number s i l l.event (location_place s i) kept at (ap (slice_get s.world.locations) (sym here) ∙ there 0 l refl) refl refl)
    (subst (λ p. All (PutKept j) (events_among number p rest)) next
    (events_among_kept j number s (suc i) rest kept at (λ k m e. let up : suc i + k ≡ i + suc k = omega arith in ap (slice_get s.world.locations) up ∙ there (suc k) m e)))

events_from_kept : (j : Joint) (n : ℕ) (rest : List Slot) → IsJoint j → ((k : ℕ) (s : Slot) → slice_get rest k ≡ Some s → slice_get j.slots (n + k) ≡ Some s) → All (PutKept j) (events_from (suc n) rest)
events_from_kept j n [] kept there = All-nil (PutKept j)
events_from_kept j n (s ∷ rest) kept there =
    let here : n + 0 ≡ n = omega arith in
    All-append (PutKept j) (slot_events (suc n) s) (events_from (suc (suc n)) rest)
    (events_among_kept j (suc n) s 0 s.world.locations kept (ap (slice_get j.slots) (sym here) ∙ there 0 s refl) (λ k l e. let at : 0 + k ≡ k = omega arith in ap (slice_get s.world.locations) at ∙ e))
    (events_from_kept j (suc n) rest kept (λ k t e. let up : suc n + k ≡ n + suc k = omega arith in ap (slice_get j.slots) up ∙ there (suc k) t e))

pub with_events_kept : (j : Joint) (puts : List Put) → IsJoint j → IsPlacement j puts → All (PutKept j) (with_events j puts)
with_events_kept j puts kept placement =
    All-append (PutKept j) (events_of j) (filter (is_at_no_event j.slots) puts)
    (events_from_kept j 0 j.slots kept (λ k s e. let at : 0 + k ≡ k = omega arith in ap (slice_get j.slots) at ∙ e))
    (All-filter (is_at_no_event j.slots) (PutKept j) puts placement.each)

-- where a number stands something is put
pub stands_somewhere : (joint : Joint) (puts : List Put) (p : ℕ) → All (PutKept joint) puts → 0 < length (standing joint puts p) → is_some (site_at joint.slots p) ≡ true
stands_somewhere joint [] p kept h = absurd (omega arith)
stands_somewhere joint (q ∷ puts) p kept h = elim (cases_Bool (eqb q.place p)) [
  | inl here ↦ ap (λ k. is_some (site_at joint.slots k)) (sym (eqb-true q.place p here)) ∙ (kept 0 q (omega arith)).place
  | inr other ↦
      let rest : standing joint (q ∷ puts) p ≡ standing joint puts p = ap (λ b. flat_map (put_numbers joint) (cond b (q ∷ filter (stands_at p) puts) (filter (stands_at p) puts))) other in
      stands_somewhere joint puts p (λ i d l. kept (suc i) d (omega arith)) (omega (arith, ap length rest))
]

-- ---- a location's place has its spot

front_all : {A : Type 0} (P : A → Type 0) (xs ys : List A) → All P (xs ++ ys) → All P xs
front_all P xs ys all i d h = subst P (get_or_append_left xs ys d i h) (all i d (omega (arith, length-append xs ys)))

back_all : {A : Type 0} (P : A → Type 0) (xs ys : List A) → All P (xs ++ ys) → All P ys
back_all P xs ys all i d h = subst P (get_or-append-add xs ys i d) (all (length xs + i) d (omega (arith, length-append xs ys)))

slot_all : (P : Spot → Type 0) (number : ℕ) (s : Slot) (i : ℕ) → All P (slot_spots number s) → i < length s.world.locations → P (spot_at number i)
slot_all P number s i all h =
    subst P (get_or-map-range_with_len (spot_at number) 0 (length s.world.locations) i i (spot_at 0 0) h (omega arith))
    (all i (spot_at 0 0) (omega (arith, length-map-range_with_len (spot_at number) 0 (length s.world.locations))))

found_location : (locations : List Location) (number k : ℕ) → is_some (option_map (site_of number) (slice_get locations k)) ≡ true → k < length locations
found_location [] number k e = absurd (false≢true e)
found_location (l ∷ locations) number zero e = omega arith
found_location (l ∷ locations) number (suc k) e = omega (arith, found_location locations number k e)

-- a location of these slots, by its spot
pub record HasSpot (slots : List Slot) (P : Spot → Type 0) (p : ℕ) : Type 0 where
  pub spot : Spot
  pub holds : P spot
  pub place : spot_place slots spot ≡ p

in_slot : (number : ℕ) (s : Slot) (p : ℕ) → is_some (site_in number s.world p) ≡ true → (length s.world.regions ≤ p) × (p - length s.world.regions < length s.world.locations)
in_slot number s p e = elim (cases_Bool (nat_lt p (length s.world.regions))) [
  | inl region ↦ absurd (false≢true (rw region at e))
  | inr location ↦ (nat_lt_false p (length s.world.regions) location, found_location s.world.locations number (p - length s.world.regions) (rw location at e))
]

spot_from : (slots : List Slot) (P : Spot → Type 0) (n place item : ℕ) (rest : List Slot) (p : ℕ) → AreNumbered place item rest → ((k : ℕ) (s : Slot) → slice_get rest k ≡ Some s → slice_get slots (n + k) ≡ Some s)
    → All P (spots_from (suc n) rest) → is_some (site_from (suc n) rest p) ≡ true → HasSpot slots P (place + p)
spot_from slots P n place item [] p numbered there all e = absurd (false≢true e)
spot_from slots P n place item (s ∷ rest) p numbered there all e = elim (cases_Bool (nat_lt p (slot_places s))) [
  | inl here ↦
      let site : is_some (site_in (suc n) s.world p) ≡ true = rw here at e in
      let inside = in_slot (suc n) s p site in
      let i = p - length s.world.regions in
      let first : n + 0 ≡ n = omega arith in
      let found : slice_get slots n ≡ Some s = ap (slice_get slots) (sym first) ∙ there 0 s refl in
      let at : location_place s i ≡ place + p = omega (arith, numbered.0, inside.0) in
      record {
        spot = spot_at (suc n) i;
        holds = slot_all P (suc n) s i (front_all P (slot_spots (suc n) s) (spots_from (suc (suc n)) rest) all) inside.1;
        place = ap (λ o. place_in o i) found ∙ at;
      }
  | inr later ↦
      let past = nat_lt_false p (slot_places s) later in
      let one : suc n + 1 ≡ suc (suc n) = omega arith in
      let site : is_some (site_from (suc (suc n)) rest (p - slot_places s)) ≡ true = subst (λ m. is_some (site_from m rest (p - slot_places s)) ≡ true) one (rw later at e) in
      let rest_of = spot_from slots P (suc n) (place + slot_places s) (item + slot_items s) rest (p - slot_places s) numbered.2
      (λ k t f. let up : suc n + k ≡ n + suc k = omega arith in ap (slice_get slots) up ∙ there (suc k) t f)
      (back_all P (slot_spots (suc n) s) (spots_from (suc (suc n)) rest) all) site in
      record { spot = rest_of.spot; holds = rest_of.holds; place = rest_of.place ∙ omega (arith, past) }
]

-- what holds of all locations holds of the one at a place
pub spot_there : (j : Joint) (P : Spot → Type 0) (p : ℕ) → IsJoint j → All P (spots_of j) → is_some (site_at j.slots p) ≡ true → HasSpot j.slots P p
spot_there j P p kept all e =
    let found = spot_from j.slots P 0 0 0 j.slots p kept.numbered (λ k s f. let at : 0 + k ≡ k = omega arith in ap (slice_get j.slots) at ∙ f) all e in
    record { spot = found.spot; holds = found.holds; place = found.place ∙ omega arith }
