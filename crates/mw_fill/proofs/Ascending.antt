-- The placement of a try is one of the joint.
use Rattle.std.proofs.Common.{◌≡◌, ℕ, zero, suc, ◌+◌, ◌<◌, ◌≤◌, Bool, true, false, List, [], ◌∷◌, ◌++◌, Option, Some, None, All, map, length, get_or, refl, sym, ap, ap₂, subst, ◌∙◌, arith}
use Rattle.std.specs.Prelude.{is_some, if◌then◌else◌}
use Rattle.std.specs.List.Sorted.{IsStrictlyIncreasing}
use Rattle.std.proofs.lemmas.Bool.Decides.{Decides-eqb}
use Rattle.std.proofs.lemmas.List.Elements.{All-map}
use Rattle.std.proofs.lemmas.List.Sums.{sum_by-cons}
use Rattle.mw_multi.specs.World.{Location}
use Rattle.mw_multi.specs.Joint.{Slot, Joint, IsJoint, AreNumbered, slot_places, slot_items, place_total}
use Rattle.mw_multi.specs.Steps.{location_place}
use Rattle.mw_multi.specs.Placement.{Put, PutKept, IsPlacement, put_place, stands_at, what_stands, AreStanding}
use Rattle.mw_multi.specs.Numbered.{each_numbered}
use Rattle.mw_fill.specs.Openings.{Opening, opening_of, opening_at, slot_openings, openings_of}
use Rattle.mw_fill.specs.Try.{or_filler, end_put, placement_of}
use Rattle.mw_fill.specs.Kept.{OpeningKept, end_held}
use Rattle.mw_fill.proofs.Fitting.{find_all, find_passes}
use Rattle.mw_fill.proofs.Locations.{openings_kept, put_kept}

pub map_same : {A B : Type 0} (f g : A → B) (xs : List A) → ((x : A) → f x ≡ g x) → map f xs ≡ map g xs
map_same f g [] h = refl
map_same f g (x ∷ xs) h = ap₂ (λ y ys. y ∷ ys) (h x) (map_same f g xs h)

-- ---- numbers that ascend

-- they ascend from this one on, each below that one
abbrev pub Rises : ℕ → List ℕ → ℕ → Type 0
Rises low [] high = low ≤ high
Rises low (x ∷ xs) high = (low ≤ x) × (x < high) × Rises (suc x) xs high

rises_lower : (low mid : ℕ) (xs : List ℕ) (high : ℕ) → low ≤ mid → Rises mid xs high → Rises low xs high
rises_lower low mid [] high h r = omega arith
rises_lower low mid (x ∷ xs) high h r = (omega (arith, r.0), r.1, r.2)

rises_higher : (low : ℕ) (xs : List ℕ) (mid high : ℕ) → mid ≤ high → Rises low xs mid → Rises low xs high
rises_higher low [] mid high h r = omega arith
rises_higher low (x ∷ xs) mid high h r = (r.0, omega (arith, r.1), rises_higher (suc x) xs mid high h r.2)

rises_on : (low : ℕ) (xs : List ℕ) (mid : ℕ) (ys : List ℕ) (high : ℕ) → mid ≤ high → Rises low xs mid → Rises mid ys high → Rises low (xs ++ ys) high
rises_on low [] mid ys high h r s = rises_lower low mid ys high r s
rises_on low (x ∷ xs) mid ys high h r s = (r.0, omega (arith, r.1), rises_on (suc x) xs mid ys high h r.2 s)

rising : (low : ℕ) (xs : List ℕ) (high k : ℕ) → Rises low xs high → suc k < length xs → get_or xs k 0 < get_or xs (suc k) 0
rising low [] high k r h = absurd (omega arith)
rising low (x ∷ []) high k r h = absurd (omega arith)
rising low (x ∷ y ∷ ys) high zero r h = omega (arith, r.2.0)
rising low (x ∷ y ∷ ys) high (suc k) r h = rising (suc x) (y ∷ ys) high k r.2 (omega arith)

increasing : (low : ℕ) (xs : List ℕ) (high : ℕ) → Rises low xs high → IsStrictlyIncreasing xs
increasing low xs high r = λ k h. let at : suc k ≡ k + 1 = omega arith in subst (λ n. get_or xs k 0 < get_or xs n 0) at (rising low xs high k r (omega arith))

-- ---- places of locations

abbrev pub place_of : Opening → ℕ
place_of opening = opening.place

map_map : {A B C : Type 0} (g : B → C) (f : A → B) (xs : List A) → map g (map f xs) ≡ map (λ x. g (f x)) xs
map_map g f [] = refl
map_map g f (x ∷ xs) = ap (λ rest. g (f x) ∷ rest) (map_map g f xs)

map_on : {A B : Type 0} (f : A → B) (xs ys : List A) → map f (xs ++ ys) ≡ map f xs ++ map f ys
map_on f [] ys = refl
map_on f (x ∷ xs) ys = ap (λ rest. f x ∷ rest) (map_on f xs ys)

one_rises : (number : ℕ) (s : Slot) (index : ℕ) (l : Location) (b : Bool) → Rises (location_place s index) (map place_of (if b then opening_of number s index l ∷ [] else [])) (location_place s (suc index))
one_rises number s index l true = (omega arith, omega arith, omega arith)
one_rises number s index l false = omega arith

among_rise : (number : ℕ) (s : Slot) (index : ℕ) (ls : List Location) → Rises (location_place s index) (map place_of (each_numbered (opening_at number s) index ls)) (location_place s (index + length ls))
among_rise number s index [] = omega arith
among_rise number s index (l ∷ ls) =
    let end : suc index + length ls ≡ index + suc (length ls) = omega arith in
    subst (λ ps. Rises (location_place s index) ps (location_place s (index + suc (length ls)))) (sym (map_on place_of (opening_at number s index l) (each_numbered (opening_at number s) (suc index) ls)))
    (rises_on (location_place s index) (map place_of (opening_at number s index l)) (location_place s (suc index)) (map place_of (each_numbered (opening_at number s) (suc index) ls)) (location_place s (index + suc (length ls))) (omega arith)
    (one_rises number s index l (is_some l.id))
    (subst (λ n. Rises (location_place s (suc index)) (map place_of (each_numbered (opening_at number s) (suc index) ls)) (location_place s n)) end (among_rise number s (suc index) ls)))

pub slots_rise : (number place item : ℕ) (slots : List Slot) → AreNumbered place item slots → Rises place (map place_of (each_numbered slot_openings number slots)) (place + place_total slots)
slots_rise number place item [] n = omega arith
slots_rise number place item (s ∷ slots) n =
    let total = sum_by-cons slot_places s slots in
    let here : Rises place (map place_of (slot_openings number s)) (place + slot_places s) =
    rises_lower place (location_place s 0) (map place_of (slot_openings number s)) (place + slot_places s) (omega (arith, n.0))
    (rises_higher (location_place s 0) (map place_of (slot_openings number s)) (location_place s (0 + length s.world.locations)) (place + slot_places s) (omega (arith, n.0)) (among_rise number s 0 s.world.locations)) in
    subst (λ ps. Rises place ps (place + place_total (s ∷ slots))) (sym (map_on place_of (slot_openings number s) (each_numbered slot_openings (suc number) slots)))
    (rises_on place (map place_of (slot_openings number s)) (place + slot_places s) (map place_of (each_numbered slot_openings (suc number) slots)) (place + place_total (s ∷ slots)) (omega (arith, total)) here
    (rises_higher (place + slot_places s) (map place_of (each_numbered slot_openings (suc number) slots)) (place + slot_places s + place_total slots) (place + place_total (s ∷ slots)) (omega (arith, total))
    (slots_rise (suc number) (place + slot_places s) (item + slot_items s) slots n.2)))

-- ---- what stands there in the end

filler_place : (opening : Opening) (o : Option Put) → ((put : Put) → o ≡ Some put → put.place ≡ opening.place) → (or_filler o opening).place ≡ opening.place
filler_place opening None h = refl
filler_place opening (Some put) h = h put refl

pub end_place : (puts : List Put) (opening : Opening) → (end_put puts opening).place ≡ opening.place
end_place puts opening = filler_place opening (what_stands puts opening.place) (λ put e. (Decides-eqb put.place opening.place).0 (find_passes (stands_at opening.place) puts put e))

filler_kept : (joint : Joint) (opening : Opening) (o : Option Put) → OpeningKept joint opening → ((put : Put) → o ≡ Some put → PutKept joint put) → PutKept joint (or_filler o opening)
filler_kept joint opening None kept h = put_kept joint opening opening.slot opening.filler kept kept.filler
filler_kept joint opening (Some put) kept h = h put refl

-- the placement is one of the joint
pub placement_kept : (joint : Joint) → IsJoint joint → (puts : List Put) → All (PutKept joint) puts → IsPlacement joint (placement_of joint puts)
placement_kept joint kept puts each = record {
  ascend =
      let places : map put_place (map (end_put puts) (openings_of joint)) ≡ map place_of (openings_of joint) = map_map put_place (end_put puts) (openings_of joint) ∙ map_same (λ s. put_place (end_put puts s)) place_of (openings_of joint) (end_place puts) in
      subst IsStrictlyIncreasing (sym places) (increasing 0 (map place_of (openings_of joint)) (0 + place_total joint.slots) (slots_rise 1 0 0 joint.slots kept.numbered));
  each =
      All-map (PutKept joint) (end_put puts) (openings_of joint)
      (λ i d l.
      let opening = get_or (openings_of joint) i d in
      filler_kept joint opening (what_stands puts opening.place) (openings_kept joint kept i d l) (λ put e. find_all (PutKept joint) (stands_at opening.place) puts put each e));
}

-- by the table of what is held
pub held_placement : (puts : List Put) (held : List (Option Put)) (openings : List Opening) → AreStanding puts held → map (end_held held) openings ≡ map (end_put puts) openings
held_placement puts held openings h = map_same (end_held held) (end_put puts) openings (λ s. ap (λ o. or_filler o s) (h s.place))
