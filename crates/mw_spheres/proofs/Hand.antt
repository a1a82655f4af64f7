-- What is in hand from sphere to sphere.
use Rattle.std.proofs.Common.{◌<◌, ◌≡◌, ℕ, zero, suc, ◌+◌, ◌≤◌, Bool, false, ◌&&◌, ◌||◌, not, eqb, List, [], ◌∷◌, ◌++◌, All, length, map, take, replicate, Some, refl, sym, ap, subst, ◌∙◌, inl, inr, arith}
use Rattle.std.specs.Prelude.{filter, slice_get, sum_by}
use Rattle.std.specs.List.{list_any}
use Rattle.std.proofs.lemmas.Bool.{cases_Bool, cases_lt}
use Rattle.std.proofs.lemmas.List.{append-nil, append_assoc, get_or_default, get_or_past, length-replicate, map-append, nil_from_length, same_lists}
use Rattle.std.proofs.lemmas.List.Concat.{flat_map-append, flat_map-cons}
use Rattle.std.proofs.lemmas.List.Elements.{All-append}
use Rattle.std.proofs.lemmas.List.Folds.{list_any-append}
use Rattle.std.proofs.lemmas.List.FromFn.{get_or-map-range_with_len, length-map-range_with_len}
use Rattle.std.proofs.lemmas.List.Sums.{sum_by-cons}
use Rattle.mw_model.specs.Seed.{Spot}
use Rattle.mw_rules.specs.Holds.{Places, bag_of, places_of}
use Rattle.mw_multi.specs.Joint.{Slot, Joint, IsJoint, AreNumbered, place_total, item_total, slot_places, slot_items}
use Rattle.mw_multi.specs.Bags.{start_count, IsBagOf}
use Rattle.mw_multi.specs.Placement.{Put, IsPlacement, IsPlaced, numbers_at, standing}
use Rattle.mw_multi.specs.Events.{with_events}
use Rattle.mw_multi.specs.Steps.{steps_of}
use Rattle.mw_multi.proofs.Counts.{start_bound}
use Rattle.mw_multi.proofs.Few.{with_events_are_few}
use Rattle.mw_reach.specs.Reach.{Placed, times_in, found, IsLeast}
use Rattle.mw_reach.specs.Reached.{IsPlacedFor}
use Rattle.mw_reach.specs.Counts.{outside}
use Rattle.mw_reach.specs.GoingOn.{IsFinished, HasMore, CountsFitWith}
use Rattle.mw_reach.proofs.Found.{found-le}
use Rattle.mw_reach.proofs.Items.{times_in-append}
use Rattle.mw_reach.proofs.Placing.{numbers_placed-le, placed-le}
use Rattle.mw_reach.proofs.Settling.{settled_alike}
use Rattle.mw_reach.proofs.Walks.{replicate-false}
use Rattle.mw_spheres.specs.Spots.{spot_place, spots_of, is_listed, table_of, holds_progression, items_at}
use Rattle.mw_spheres.specs.Spheres.{hand_of, is_due, IsSphere, AreSpheres, listed}
use Rattle.mw_spheres.specs.Gathering.{BagFits, Gathered, IsInHand}

-- ---- tables

-- a table of what stands at each place is the one table of it
pub table_is : (joint : Joint) (puts : List Put) (table : Placed) → IsPlaced joint puts table → table ≡ table_of joint puts
table_is joint puts table placed =
    same_lists table (table_of joint puts) (placed.size ∙ sym (length-map-range_with_len (standing joint puts) 0 (place_total joint.slots)))
    (λ k d h.
    get_or_default table k d [] h ∙ placed.entries k
    ∙ sym (get_or-map-range_with_len (standing joint puts) 0 (place_total joint.slots) k k d (omega (arith, placed.size)) (omega arith)))

-- a number of the table stands at its place
pub table_entry : (joint : Joint) (puts : List Put) (p : ℕ) → 0 < length (numbers_at (table_of joint puts) p) → 0 < length (standing joint puts p)
table_entry joint puts p some = elim (cases_lt p (place_total joint.slots)) [
  | inl within ↦ omega (arith, ap length (get_or-map-range_with_len (standing joint puts) 0 (place_total joint.slots) p p [] within (omega arith)))
  | inr past ↦ absurd (omega (arith, ap length (get_or_past (table_of joint puts) p [] (omega (arith, length-map-range_with_len (standing joint puts) 0 (place_total joint.slots))))))
]

-- where nothing stands nothing is found
nothing_found : (joint : Joint) (nothing : Placed) (w : Places) (i : ℕ) → IsPlaced joint [] nothing → found nothing w i ≡ 0
nothing_found joint nothing w i placed = omega (arith, found-le 0 nothing w i, numbers_placed-le joint [] nothing placed)

-- a list that is least with a table of nothing is least with no table
pub settled_without : (joint : Joint) (bag : List ℕ) (nothing : Placed) (done : List Bool) (counts : List ℕ) → IsPlaced joint [] nothing → IsFinished (steps_of joint) (bag_of bag) nothing done counts → IsFinished (steps_of joint) (bag_of bag) [] done counts
settled_without joint bag nothing done counts placed settled =
    settled_alike (steps_of joint) (bag_of bag) (bag_of bag) nothing [] done counts (λ v i. omega (arith, nothing_found joint nothing v i placed)) settled

-- ---- a slot's first place

first_place_from : (place item : ℕ) (slots : List Slot) (k : ℕ) (s : Slot) → AreNumbered place item slots → slice_get slots k ≡ Some s → s.first_place ≡ place + place_total (take k slots)
first_place_from place item [] k s n e = cc
first_place_from place item (t ∷ slots) zero s n e =
    let same : t ≡ s = cc in
    omega (arith, ap (λ (u : Slot). u.first_place) same, n.0)
first_place_from place item (t ∷ slots) (suc k) s n e =
    omega (arith, first_place_from (place + slot_places t) (item + slot_items t) slots k s n.2 e, sum_by-cons slot_places t (take k slots))

pub first_place_is : (slots : List Slot) (k : ℕ) (s : Slot) → AreNumbered 0 0 slots → slice_get slots k ≡ Some s → s.first_place ≡ place_total (take k slots)
first_place_is slots k s n e = first_place_from 0 0 slots k s n e ∙ omega arith

place_total_push : (slots : List Slot) (k : ℕ) (s : Slot) → slice_get slots k ≡ Some s → place_total (take (suc k) slots) ≡ place_total (take k slots) + slot_places s
place_total_push [] k s e = cc
place_total_push (t ∷ slots) zero s e =
    let same : t ≡ s = cc in
    omega (arith, ap slot_places same, sum_by-cons slot_places t [])
place_total_push (t ∷ slots) (suc k) s e =
    omega (arith, place_total_push slots k s e, sum_by-cons slot_places t (take k slots), sum_by-cons slot_places t (take (suc k) slots))

pub end_is : (slots : List Slot) (k : ℕ) (s : Slot) → AreNumbered 0 0 slots → slice_get slots k ≡ Some s → s.first_place + slot_places s ≡ place_total (take (k + 1) slots)
end_is slots k s n e =
    let one : k + 1 ≡ suc k = omega arith in
    omega (arith, first_place_is slots k s n e, place_total_push slots k s e, ap (λ m. place_total (take m slots)) one)

-- ---- one sphere more

pub filter-same : {A : Type 0} (f g : A → Bool) → ((x : A) → f x ≡ g x) → (xs : List A) → filter f xs ≡ filter g xs
filter-same f g h [] = refl
filter-same f g h (x ∷ xs) = elim (cases_Bool (g x)) [
  | inl yes_ ↦ rw (h x, yes_) (ap (λ ys. x ∷ ys) (filter-same f g h xs))
  | inr no_ ↦ rw (h x, no_) (filter-same f g h xs)
]

listed-append : (slots : List Slot) (a b : List Spot) (p : ℕ) → is_listed slots (a ++ b) p ≡ (is_listed slots a p || is_listed slots b p)
listed-append slots a b p = ap (λ ps. list_any (λ m. eqb m p) ps) (map-append (spot_place slots) a b) ∙ list_any-append (λ m. eqb m p) (map (spot_place slots) a) (map (spot_place slots) b)

pub items-append : (slots : List Slot) (table : Placed) (a b : List Spot) → items_at slots table (a ++ b) ≡ items_at slots table a ++ items_at slots table b
items-append slots table a b = flat_map-append (λ s. numbers_at table (spot_place slots s)) a b

module _ (joint : Joint) (table : Placed) (w : Places) (first : List Bool) (start : List ℕ) (bound : ℕ) (taken : List Bool) (bag : List ℕ) (sphere earlier : List Spot)
    (all : Gathered joint.slots table w first start (spots_of joint) bound taken bag sphere) (hand : IsInHand joint table earlier first start) where
  pub sphere_gathered : IsLeast (steps_of joint) (hand_of joint table earlier) [] w → IsSphere joint table earlier sphere
  sphere_gathered least = record {
    reached = w;
    least = least;
    due = all.due ∙ filter-same (is_due joint.slots table w (places_of first)) (is_due joint.slots table w (is_listed joint.slots earlier))
        (λ s. ap (λ b. (w (spot_place joint.slots s) && holds_progression table (spot_place joint.slots s)) && not b) (hand.flags (spot_place joint.slots s))) (spots_of joint);
  }

  pub hand_gathered : IsInHand joint table (earlier ++ sphere) taken bag
  hand_gathered = record {
    flags = λ p. all.flags p ∙ ap (λ b. b || is_listed joint.slots sphere p) (hand.flags p) ∙ sym (listed-append joint.slots earlier sphere p);
    counts = λ i. omega (arith, all.counts i, hand.counts i, ap (times_in i) (items-append joint.slots table earlier sphere), times_in-append i (items_at joint.slots table earlier) (items_at joint.slots table sphere));
  }

-- ---- what a sphere holds, for reach

all_numbers : (joint : Joint) (table : Placed) (p : ℕ) → IsPlacedFor joint table → All (λ i. i < item_total joint.slots) (numbers_at table p)
all_numbers joint table p fits = elim (cases_lt p (length table)) [
  | inl within ↦ fits.items p [] within
  | inr past ↦ rw (get_or_past table p [] past) (λ k d h. absurd (omega arith))
]

pub items_within : (joint : Joint) (table : Placed) → IsPlacedFor joint table → (spots : List Spot) → All (λ i. i < item_total joint.slots) (items_at joint.slots table spots)
items_within joint table fits [] = λ k d h. absurd (omega arith)
items_within joint table fits (s ∷ spots) =
    let place = spot_place joint.slots s in
    rw (flat_map-cons (λ t. numbers_at table (spot_place joint.slots t)) s spots)
    (All-append (λ i. i < item_total joint.slots) (numbers_at table place) (items_at joint.slots table spots) (all_numbers joint table place fits) (items_within joint table fits spots))

module _ (joint : Joint) (nothing table : Placed) (places : IsPlaced joint [] nothing) (bag later items : List ℕ) (counted : (i : ℕ) → bag_of later i ≡ bag_of bag i + times_in i items) where
  pub has_more : (w : Places) → HasMore (bag_of bag) (bag_of later) [] nothing w items
  has_more w = record {
    counts = λ i. omega (arith, counted i, nothing_found joint nothing w i places);
    grows = λ v i. omega (arith, counted i);
  }

  pub room_for : (taken done : List Bool) (counts : List ℕ) → IsFinished (steps_of joint) (bag_of bag) [] done counts → BagFits table taken later → CountsFitWith items nothing done counts
  room_for taken done counts settled room i =
      omega (arith, settled.tally i, counted i, room.room i, nothing_found joint nothing (outside done) i places)

-- ---- at first

pub first_hand : (joint : Joint) (table : Placed) (n : ℕ) (taken : List Bool) (bag : List ℕ) → taken ≡ replicate n false → IsBagOf joint.slots (start_count joint.slots) bag → IsInHand joint table [] taken bag
first_hand joint table n taken bag none start = record {
  flags = λ p. ap (λ ts. places_of ts p) none ∙ replicate-false n p;
  counts = λ i. omega (arith, start.counts i);
}

pub first_room : (joint : Joint) (table : Placed) (taken : List Bool) (bag : List ℕ) → IsJoint joint → IsPlacedFor joint table → sum_by length table ≤ 409600000 → taken ≡ replicate (place_total joint.slots) false
    → IsBagOf joint.slots (start_count joint.slots) bag → BagFits table taken bag
first_room joint table taken bag kept placed few none start = record {
  size = ap length none ∙ length-replicate (place_total joint.slots) false ∙ sym placed.size;
  items = rw start.size placed.items;
  room = λ i. omega (arith, start.counts i, start_bound joint.slots i kept.each, kept.few, found-le 0 table (outside taken) i);
}

pub few_numbers : (joint : Joint) (puts : List Put) (table : Placed) → IsJoint joint → IsPlacement joint puts → IsPlaced joint (with_events joint puts) table → sum_by length table ≤ 409600000
few_numbers joint puts table kept placement placed = omega (arith, placed-le joint kept (with_events joint puts) table placed, with_events_are_few joint puts kept placement)

-- ---- sphere after sphere

-- whatever follows is spheres of the table after these
abbrev pub LeadsOn : Joint → Placed → List (List Spot) → Type 0
LeadsOn joint table spheres = (rest : List (List Spot)) → AreSpheres joint table (listed spheres) rest → AreSpheres joint table [] (spheres ++ rest)

pub listed-push : (spheres : List (List Spot)) (sphere : List Spot) → listed (spheres ++ sphere ∷ []) ≡ listed spheres ++ sphere
listed-push spheres sphere = flat_map-append (λ (s : List Spot). s) spheres (sphere ∷ []) ∙ ap (λ ss. listed spheres ++ ss) (append-nil sphere)

pub leads_on : (joint : Joint) (table : Placed) (spheres : List (List Spot)) (sphere : List Spot) → LeadsOn joint table spheres → IsSphere joint table (listed spheres) sphere → 1 ≤ length sphere
    → LeadsOn joint table (spheres ++ sphere ∷ [])
leads_on joint table spheres sphere before is some rest next =
    let joined : spheres ++ sphere ∷ rest ≡ (spheres ++ sphere ∷ []) ++ rest = sym (append_assoc spheres (sphere ∷ []) rest) in
    subst (λ ss. AreSpheres joint table [] ss) joined
    (before (sphere ∷ rest) (is, some, subst (λ es. AreSpheres joint table es rest) (listed-push spheres sphere) next))

pub ends_here : (joint : Joint) (table : Placed) (spheres : List (List Spot)) (sphere : List Spot) → LeadsOn joint table spheres → IsSphere joint table (listed spheres) sphere → length sphere ≤ 0 → AreSpheres joint table [] spheres
ends_here joint table spheres sphere before is none =
    let empty : sphere ≡ [] = nil_from_length sphere (omega arith) in
    subst (λ ss. AreSpheres joint table [] ss) (append-nil spheres) (before [] (subst (IsSphere joint table (listed spheres)) empty is))
