-- Locations taken one after the other.
use Rattle.std.proofs.Common.{◌≡◌, ℕ, ◌+◌, ◌<◌, ◌≤◌, ◌^◌, Bool, true, false, ◌&&◌, ◌||◌, not, eqb, List, [], ◌∷◌, ◌++◌, length, get_or, map, set, take, refl, sym, ap, ap₂, ◌∙◌, inl, inr, arith, get_or-set_same, get_or-set_other, length-set}
use Rattle.std.specs.Prelude.{filter}
use Rattle.std.specs.List.{list_any}
use Rattle.std.proofs.lemmas.Bool.{and_parts, cases_eq, eq-eqb, ne_eqb}
use Rattle.std.proofs.lemmas.List.{append-nil, length-append, map_push}
use Rattle.std.proofs.lemmas.List.Concat.{flat_map-append}
use Rattle.std.proofs.lemmas.List.Elements.{filter-append}
use Rattle.std.proofs.lemmas.List.Folds.{list_any-append}
use Rattle.mw_model.specs.Seed.{Spot}
use Rattle.mw_rules.specs.Holds.{Places, bag_of, places_of}
use Rattle.mw_multi.specs.Joint.{Slot}
use Rattle.mw_multi.specs.Placement.{numbers_at}
use Rattle.mw_reach.specs.Reach.{Placed, times_in}
use Rattle.mw_reach.proofs.Found.{Adds-outside, found-Adds, found_outside}
use Rattle.mw_reach.proofs.Items.{times_in-append, times_more, times_part}
use Rattle.mw_reach.proofs.Waking.{missing-set}
use Rattle.mw_spheres.specs.Spots.{spot_place, is_listed, holds_progression, items_at}
use Rattle.mw_spheres.specs.Spheres.{is_due}
use Rattle.mw_spheres.specs.Gathering.{BagFits, Gathered}

-- ---- room

-- there is room for one item more
pub room_for_one : (first counts items : List ℕ) (k : ℕ) → k < length items → ((i : ℕ) → bag_of counts i ≡ bag_of first i + times_in i (take k items))
    → ((i : ℕ) → bag_of first i + times_in i items < 2 ^ 31) → bag_of counts (get_or items k 0) + 1 < 2 ^ 31
room_for_one first counts items k h so_far room =
    let j = get_or items k 0 in
    let same : eqb j j ≡ true = eq-eqb j j refl in
    let more : times_in j (take (k + 1) items) ≡ times_in j (take k items) + 1 = times_more j items k 0 h ∙ rw same refl in
    omega (arith, so_far j, room j, times_part j items (k + 1))

-- a place is taken with what stands there
pub room_taken : (table : Placed) (taken : List Bool) (bag later : List ℕ) (p : ℕ) → p < length table → places_of taken p ≡ false → BagFits table taken bag
    → length later ≡ length bag → ((i : ℕ) → bag_of later i ≡ bag_of bag i + times_in i (numbers_at table p)) → BagFits table (set taken p true) later
room_taken table taken bag later p h new room size counts = record {
  size = length-set taken p true ∙ room.size;
  items = rw size room.items;
  room = λ i. omega (arith, room.room i, counts i, found-Adds p table _ _ i (Adds-outside taken p (omega (arith, room.size)) new));
}

pub room_at : (table : Placed) (taken : List Bool) (bag : List ℕ) (p : ℕ) → p < length table → places_of taken p ≡ false → BagFits table taken bag → (i : ℕ) → bag_of bag i + times_in i (numbers_at table p) < 2 ^ 31
room_at table taken bag p h new room i = omega (arith, room.room i, found_outside taken p table i (omega (arith, room.size)) new)

-- ---- what is listed

not_true : (b : Bool) → not b ≡ true → b ≡ false
not_true true e = cc
not_true false e = refl

or_nothing : (b : Bool) → (b || false) ≡ b
or_nothing true = refl
or_nothing false = refl

or_all : (b : Bool) → (b || true) ≡ true
or_all true = refl
or_all false = refl

listed_push : (slots : List Slot) (spots : List Spot) (spot : Spot) (p : ℕ) → is_listed slots (spots ++ spot ∷ []) p ≡ (is_listed slots spots p || eqb (spot_place slots spot) p)
listed_push slots spots spot p =
    ap (λ ps. list_any (λ m. eqb m p) ps) (map_push (spot_place slots) spots spot)
    ∙ list_any-append (λ m. eqb m p) (map (spot_place slots) spots) (spot_place slots spot ∷ [])
    ∙ ap (λ b. is_listed slots spots p || b) (or_nothing (eqb (spot_place slots spot) p))

pub items_push : (slots : List Slot) (table : Placed) (spots : List Spot) (spot : Spot) → items_at slots table (spots ++ spot ∷ []) ≡ items_at slots table spots ++ numbers_at table (spot_place slots spot)
items_push slots table spots spot =
    flat_map-append (λ s. numbers_at table (spot_place slots s)) spots (spot ∷ [])
    ∙ ap (λ is. items_at slots table spots ++ is) (append-nil (numbers_at table (spot_place slots spot)))

-- ---- gathering

pub gathered_none : (slots : List Slot) (table : Placed) (w : Places) (taken : List Bool) (bag : List ℕ) → Gathered slots table w taken bag [] 0 taken bag []
gathered_none slots table w taken bag = record {
  due = refl;
  flags = λ p. sym (or_nothing (places_of taken p));
  later = λ p h. refl;
  counts = λ i. omega arith;
  fewer = omega arith;
}

module _ (slots : List Slot) (table : Placed) (w : Places) (first : List Bool) (start : List ℕ) (spots : List Spot) (bound : ℕ) (taken : List Bool) (bag : List ℕ) (found : List Spot)
    (before : Gathered slots table w first start spots bound taken bag found) where
  module _ (spot : Spot) (h : bound ≤ spot_place slots spot) where
    -- whether the location is due can be asked of what is taken now
    due_now : ((w (spot_place slots spot) && holds_progression table (spot_place slots spot)) && not (places_of taken (spot_place slots spot))) ≡ is_due slots table w (places_of first) spot
    due_now = ap (λ b. (w (spot_place slots spot) && holds_progression table (spot_place slots spot)) && not b) (before.later (spot_place slots spot) h)

    filter_next : (b : Bool) → is_due slots table w (places_of first) spot ≡ b
        → filter (is_due slots table w (places_of first)) (spots ++ spot ∷ []) ≡ found ++ filter (λ s. b) (spot ∷ [])
    filter_next b e =
        filter-append (is_due slots table w (places_of first)) spots (spot ∷ [])
        ∙ ap₂ ◌++◌ (sym before.due) (rw e refl)

    pub gathered_passed : ((w (spot_place slots spot) && holds_progression table (spot_place slots spot)) && not (places_of taken (spot_place slots spot))) ≡ false
        → Gathered slots table w first start (spots ++ spot ∷ []) (spot_place slots spot + 1) taken bag found
    gathered_passed e = record {
      due = sym (filter_next false (sym due_now ∙ e) ∙ append-nil found);
      flags = before.flags;
      later = λ p l. before.later p (omega arith);
      counts = before.counts;
      fewer = before.fewer;
    }

    pub gathered_taken : (later_bag : List ℕ) → spot_place slots spot < length taken
        → ((w (spot_place slots spot) && holds_progression table (spot_place slots spot)) && not (places_of taken (spot_place slots spot))) ≡ true
        → ((i : ℕ) → bag_of later_bag i ≡ bag_of bag i + times_in i (numbers_at table (spot_place slots spot)))
        → Gathered slots table w first start (spots ++ spot ∷ []) (spot_place slots spot + 1) (set taken (spot_place slots spot) true) later_bag (found ++ spot ∷ [])
    gathered_taken later_bag within e counts =
        let p = spot_place slots spot in
        let new : places_of taken p ≡ false = not_true (places_of taken p) (and_parts (w p && holds_progression table p) (not (places_of taken p)) e).1 in
        record {
          due = sym (filter_next true (sym due_now ∙ e));
          flags = λ q. elim (cases_eq q p) [
            | inl same ↦
                ap (places_of (set taken p true)) same ∙ get_or-set_same taken p true false within
                ∙ sym (ap (λ b. places_of first q || b) (listed_push slots found spot q ∙ ap (λ b. is_listed slots found q || b) (eq-eqb p q (sym same)) ∙ or_all (is_listed slots found q)) ∙ or_all (places_of first q))
            | inr other ↦
                get_or-set_other taken p q true false other ∙ before.flags q
                ∙ sym (ap (λ b. places_of first q || b) (listed_push slots found spot q ∙ ap (λ b. is_listed slots found q || b) (ne_eqb p q (λ s. other (sym s))) ∙ or_nothing (is_listed slots found q)))
          ];
          later = λ q l. get_or-set_other taken p q true false (λ same. absurd (omega arith)) ∙ before.later q (omega arith);
          counts = λ i. omega (arith, counts i, before.counts i, ap (times_in i) (items_push slots table found spot), times_in-append i (items_at slots table found) (numbers_at table p));
          fewer = omega (arith, missing-set taken p within new, before.fewer, length-append found (spot ∷ []));
        }
