-- Where a spot's location stands over all slots.
use Rattle.std.proofs.Common.{All, ◌≡◌, ℕ, zero, suc, ◌+◌, ◌-◌, ◌<◌, ◌≤◌, List, [], ◌∷◌, ◌++◌, Some, length, get_or, take, refl, sym, ap, ap₂, subst, ◌∙◌, arith}
use Rattle.std.specs.Prelude.{slice_get}
use Rattle.std.proofs.lemmas.List.{append_assoc, append-nil}
use Rattle.std.proofs.lemmas.List.Elements.{All-nil, All-append}
use Rattle.std.proofs.lemmas.List.FromFn.{get_or-map-range_with_len, length-map-range_with_len}
use Rattle.mw_model.specs.Seed.{Spot}
use Rattle.mw_multi.specs.Joint.{Slot, Joint, IsJoint, place_total, slot_places}
use Rattle.mw_multi.specs.Steps.{location_place}
use Rattle.mw_multi.specs.Placement.{slot_at}
use Rattle.mw_multi.proofs.Sites.{get_some}
use Rattle.mw_multi.proofs.Standing.{numbered_slot}
use Rattle.mw_spheres.specs.Spots.{IsSpot, place_in, spot_place, spot_at, slot_spots, spots_from, spots_of}

read : {A : Type 0} (xs : List A) (k : ℕ) (x : A) → slice_get xs k ≡ Some x → k < length xs
read [] k x e = cc
read (y ∷ xs) zero x e = omega arith
read (y ∷ xs) (suc k) x e = omega (arith, read xs k x e)

known_number : (slots : List Slot) (number : ℕ) (s : Slot) → slot_at slots number ≡ Some s → (1 ≤ number) × (number - 1 < length slots) × (slice_get slots (number - 1) ≡ Some s)
known_number slots zero s e = cc
known_number slots (suc k) s e =
    let back : suc k - 1 ≡ k = omega arith in
    (omega arith, omega (arith, read slots k s e), ap (slice_get slots) back ∙ e)

-- a spot's slot, as it is read
pub record KnownSpot (joint : Joint) (spot : Spot) (s : Slot) : Type 0 where
  pub index : spot.index < length s.world.locations
  pub place : spot_place joint.slots spot ≡ location_place s spot.index
  pub fits : s.first_place + slot_places s ≤ place_total joint.slots
  pub few : place_total joint.slots ≤ 200000

module _ (joint : Joint) (kept : IsJoint joint) (spot : Spot) (there : IsSpot joint.slots spot) where
  pub slot_number : (1 ≤ spot.slot) × (spot.slot - 1 < length joint.slots) × (slice_get joint.slots (spot.slot - 1) ≡ Some there.0)
  slot_number = known_number joint.slots spot.slot there.0 there.1

  pub known_spot : (listed : List Slot) (s : Slot) → listed ≡ joint.slots → s ≡ get_or listed (spot.slot - 1) s → KnownSpot joint spot s
  known_spot listed s same is =
      let here : s ≡ get_or joint.slots (spot.slot - 1) s = is ∙ ap (λ ss. get_or ss (spot.slot - 1) s) same in
      let found : slice_get joint.slots (spot.slot - 1) ≡ Some s = get_some joint.slots (spot.slot - 1) s slot_number.1 ∙ ap Some (sym here) in
      let one : there.0 ≡ s = (let two = slot_number.2 in cc) in
      record {
        index = subst (λ (t : Slot). spot.index < length t.world.locations) one there.2;
        place = ap (λ o. place_in o spot.index) there.1 ∙ ap (λ t. location_place t spot.index) one;
        fits = (numbered_slot joint.slots spot.slot s kept.numbered (there.1 ∙ ap Some one)).places_fit;
        few = kept.places;
      }

-- one slot more
spots_after : (number : ℕ) (slots : List Slot) (k : ℕ) (s : Slot) → slice_get slots k ≡ Some s
    → spots_from number (take (suc k) slots) ≡ spots_from number (take k slots) ++ slot_spots (number + k) s
spots_after number [] k s e = cc
spots_after number (t ∷ slots) zero s e =
    let same : t ≡ s = cc in
    let at : number ≡ number + 0 = omega arith in
    append-nil (slot_spots number t) ∙ ap₂ (λ (u : Slot) m. slot_spots m u) same at
spots_after number (t ∷ slots) (suc k) s e =
    let at : suc number + k ≡ number + suc k = omega arith in
    ap (λ rest. slot_spots number t ++ rest) (spots_after (suc number) slots k s e)
    ∙ sym (append_assoc (slot_spots number t) (spots_from (suc number) (take k slots)) (slot_spots (suc number + k) s))
    ∙ ap (λ m. (slot_spots number t ++ spots_from (suc number) (take k slots)) ++ slot_spots m s) at

pub spots_next : (slots : List Slot) (k : ℕ) (s : Slot) → slice_get slots k ≡ Some s
    → spots_from 1 (take (k + 1) slots) ≡ spots_from 1 (take k slots) ++ slot_spots (k + 1) s
spots_next slots k s e =
    let one_more : k + 1 ≡ suc k = omega arith in
    let number : 1 + k ≡ k + 1 = omega arith in
    ap (λ n. spots_from 1 (take n slots)) one_more ∙ spots_after 1 slots k s e ∙ ap (λ m. spots_from 1 (take k slots) ++ slot_spots m s) number

-- a slot that is read at an index
pub slot_read : (slots : List Slot) (k : ℕ) (s t : Slot) (listed : List Slot) → listed ≡ slots → t ≡ get_or listed k t → slice_get slots k ≡ Some s → t ≡ s
slot_read slots k s t listed same is found =
    let here : slice_get slots k ≡ Some t = get_some slots k t (read slots k s found) ∙ ap Some (sym (is ∙ ap (λ ss. get_or ss k t) same)) in
    cc

-- an element that is read
pub all_at : {A : Type 0} (P : A → Type 0) (xs : List A) (i : ℕ) (x : A) → All P xs → i < length xs → x ≡ get_or xs i x → P x
all_at P xs i x all h is = subst P (sym is) (all i x h)

-- ---- all locations

pub spot_within : (joint : Joint) (spot : Spot) → IsJoint joint → IsSpot joint.slots spot → spot_place joint.slots spot < place_total joint.slots
spot_within joint spot kept there =
    let place : spot_place joint.slots spot ≡ location_place there.0 spot.index = ap (λ o. place_in o spot.index) there.1 in
    omega (arith, there.2, (numbered_slot joint.slots spot.slot there.0 kept.numbered there.1).places_fit)

slot_spots_are : (slots : List Slot) (n : ℕ) (s : Slot) → slice_get slots n ≡ Some s → All (IsSpot slots) (slot_spots (suc n) s)
slot_spots_are slots n s found i d h =
    let within : i < length s.world.locations = omega (arith, length-map-range_with_len (spot_at (suc n)) 0 (length s.world.locations)) in
    subst (IsSpot slots) (sym (get_or-map-range_with_len (spot_at (suc n)) 0 (length s.world.locations) i i d within (omega arith))) (s, found, within)

spots_are_from : (slots : List Slot) (n : ℕ) (rest : List Slot) → ((j : ℕ) (s : Slot) → slice_get rest j ≡ Some s → slice_get slots (n + j) ≡ Some s) → All (IsSpot slots) (spots_from (suc n) rest)
spots_are_from slots n [] there = All-nil (IsSpot slots)
spots_are_from slots n (s ∷ rest) there =
    let here : n + 0 ≡ n = omega arith in
    All-append (IsSpot slots) (slot_spots (suc n) s) (spots_from (suc (suc n)) rest)
    (slot_spots_are slots n s (ap (slice_get slots) (sym here) ∙ there 0 s refl))
    (spots_are_from slots (suc n) rest (λ j t e. let at : suc n + j ≡ n + suc j = omega arith in ap (slice_get slots) at ∙ there (suc j) t e))

-- each of all locations is one that the tables have
pub spots_are : (joint : Joint) → All (IsSpot joint.slots) (spots_of joint)
spots_are joint = spots_are_from joint.slots 0 joint.slots (λ j s e. let at : 0 + j ≡ j = omega arith in ap (slice_get joint.slots) at ∙ e)
