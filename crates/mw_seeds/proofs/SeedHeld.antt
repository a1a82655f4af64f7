-- What stands at the locations of a joint: each entry by what it is of, and no two of one location.
use Rattle.std.proofs.Common.{◌≡◌, ◌≤◌, ◌<◌, ◌+◌, ◌&&◌, ◌==◌, ◌⊎◌, ℕ, ℤ, suc, List, [], ◌∷◌, ◌++◌, Bool, true, false, Option, Some, None, inl, inr, length, map, filter_map, int_eq, option_and_then, slice_get, get_or, refl, sym, ap, subst, ◌∙◌, arith}
use Rattle.std.specs.Prelude.{All}
use Rattle.std.specs.List.{IsDistinct, AllByRecursion}
use Rattle.std.proofs.lemmas.List.{length-append}
use Rattle.std.proofs.lemmas.List.Elements.{All-nil, All-cons, All-head, All-tail, All-append}
use Rattle.std.proofs.lemmas.List.Sums.{sum_by-cons}
use Rattle.mw_model.specs.Seed.{Held}
use Rattle.mw_multi.specs.World.{World, Item, Location}
use Rattle.mw_multi.specs.WorldKept.{location_id}
use Rattle.mw_multi.specs.Names.{IdsDiffer}
use Rattle.mw_multi.specs.Joint.{Slot, Joint, slot_places, place_total}
use Rattle.mw_multi.specs.Steps.{location_place}
use Rattle.mw_multi.specs.Placement.{Put, item_in}
use Rattle.mw_multi.specs.Numbered.{each_numbered}
use Rattle.mw_seeds.specs.SeedFile.{class_flags, held_with, held_item, held_put, held_where, location_held, slot_held}
use Rattle.mw_seeds.specs.Agreeing.{first_owner}
use Rattle.mw_seeds.proofs.Sorting.{same_held}

-- ---- one entry

-- it holds an item of its receiver, at a location with this id of the slot of this number
pub record IsHeldOf (joint : Joint) (number : ℕ) (id : ℤ) (h : Held) : Type 0 where
  pub slot : h.slot ≡ number
  pub location : h.location ≡ id
  pub owner : Slot
  pub receiver : first_owner joint h.receiver ≡ Some owner
  pub index : ℕ
  pub what : Item
  pub there : slice_get owner.world.items index ≡ Some what
  pub named : what.id ≡ Some h.item
  pub flags : h.flags ≡ class_flags what.class

-- nothing, or one such entry
abbrev pub IsOneOrNone : Joint → ℕ → ℤ → List Held → Type 0
IsOneOrNone joint number id hs = (hs ≡ []) ⊎ ((h : Held) × (hs ≡ h ∷ []) × IsHeldOf joint number id h)

module _ (joint : Joint) (number : ℕ) (id : ℤ) where
  with_id : (receiver index : ℕ) (s : Slot) (i : Item) (o : Option ℤ) → first_owner joint receiver ≡ Some s → slice_get s.world.items index ≡ Some i → i.id ≡ o
      → IsOneOrNone joint number id (held_with number id receiver o i.class)
  with_id receiver index s i None at there e = inl refl
  with_id receiver index s i (Some item) at there e =
      inr (record { slot = number; location = id; item = item; receiver = receiver; flags = class_flags i.class }, refl, record { slot = refl; location = refl; owner = s; receiver = at; index = index; what = i; there = there; named = e; flags = refl })

  with_item : (receiver index : ℕ) (s : Slot) (o : Option Item) → first_owner joint receiver ≡ Some s → slice_get s.world.items index ≡ o → IsOneOrNone joint number id (held_item number id receiver o)
  with_item receiver index s None at there = inl refl
  with_item receiver index s (Some i) at there = with_id receiver index s i i.id at there refl

  with_slot : (receiver index : ℕ) (o : Option Slot) → first_owner joint receiver ≡ o → IsOneOrNone joint number id (held_item number id receiver (option_and_then (item_in index) o))
  with_slot receiver index None at = inl refl
  with_slot receiver index (Some s) at = with_item receiver index s (slice_get s.world.items index) at refl

  put_held : (o : Option Put) → IsOneOrNone joint number id (held_put joint number id o)
  put_held None = inl refl
  put_held (Some put) = with_slot put.receiver put.item (first_owner joint put.receiver) refl

-- ---- lists of which no two are of one location

part_here : {K : Type 0} (e : K → K → Bool) (x : K) (ys zs : List K) → AllByRecursion (λ y. e x y ≡ false) ys → AllByRecursion (λ y. e x y ≡ false) zs → AllByRecursion (λ y. e x y ≡ false) (ys ++ zs)
part_here e x [] zs h k = k
part_here e x (y ∷ ys) zs h k = (h.0, part_here e x ys zs h.1 k)

pub distinct_both : {K : Type 0} (e : K → K → Bool) (xs ys : List K) → IsDistinct e xs → IsDistinct e ys → All (λ x. AllByRecursion (λ y. e x y ≡ false) ys) xs → IsDistinct e (xs ++ ys)
unfolding IsDistinct
distinct_both e [] ys h k c = k
distinct_both {K = K} e (x ∷ xs) ys h k c =
    let Apart : K → Type 0 = λ x. AllByRecursion (λ y. e x y ≡ false) ys in
    (part_here e x xs ys h.0 (All-head Apart x xs c), distinct_both e xs ys h.1 k (All-tail Apart x xs c))

pub apart_where : {K : Type 0} (e : K → K → Bool) (P : K → Type 0) (x : K) (ys : List K) → ((y : K) → P y → e x y ≡ false) → All P ys → AllByRecursion (λ y. e x y ≡ false) ys
apart_where e P x [] f h = tt
apart_where e P x (y ∷ ys) f h = (f y (All-head P y ys h), apart_where e P x ys f (All-tail P y ys h))

pub differ_slots : (a b : Held) → a.slot < b.slot → same_held a b ≡ false
differ_slots a b h = grind (arith, h)

pub and_false : (a b : Bool) → b ≡ false → (a && b) ≡ false
and_false true b h = h
and_false false b h = refl

pub differ_ids : (a b : Held) → int_eq a.location b.location ≡ false → same_held a b ≡ false
differ_ids a b h = and_false (a.slot == b.slot) (int_eq a.location b.location) h

-- ---- the locations of a slot

-- an entry is of one of these locations
abbrev pub IsOfOne : Joint → ℕ → World → Held → Type 0
IsOfOne joint number w h = (k : ℕ) × (l : Location) × (id : ℤ) × (slice_get w.locations k ≡ Some l) × (l.id ≡ Some id) × IsHeldOf joint number id h

-- the id of an entry is among these
abbrev HasIdAmong : List Location → Held → Type 0
HasIdAmong ls h = (d : ℤ) → AllByRecursion (λ y. int_eq d y ≡ false) (filter_map (λ i. i) (map location_id ls)) → int_eq d h.location ≡ false

pub skip : (d : ℤ) (o : Option ℤ) (os : List (Option ℤ)) → AllByRecursion (λ y. int_eq d y ≡ false) (filter_map (λ i. i) (o ∷ os)) → AllByRecursion (λ y. int_eq d y ≡ false) (filter_map (λ i. i) os)
skip d None os h = h
skip d (Some i) os h = h.1

pub rest_differ : (o : Option ℤ) (os : List (Option ℤ)) → IdsDiffer (o ∷ os) → IdsDiffer os
unfolding IsDistinct
rest_differ None os h = h
rest_differ (Some i) os h = h.1

pub first_differs : (id : ℤ) (o : Option ℤ) (os : List (Option ℤ)) → o ≡ Some id → IdsDiffer (o ∷ os) → AllByRecursion (λ y. int_eq id y ≡ false) (filter_map (λ i. i) os)
unfolding IsDistinct
first_differs id None os e h = cc
first_differs id (Some i) os e h = let same : i ≡ id = cc in subst (λ d. AllByRecursion (λ y. int_eq d y ≡ false) (filter_map (λ j. j) os)) same h.0

module _ (joint : Joint) (stands : ℕ → Option Put) (number : ℕ) (s : Slot) where
  at_id : (index : ℕ) (l : Location) (o : Option ℤ) → l.id ≡ o → (held_where joint number o (stands (location_place s index)) ≡ [])
      ⊎ ((h : Held) × (id : ℤ) × (held_where joint number o (stands (location_place s index)) ≡ h ∷ []) × (o ≡ Some id) × IsHeldOf joint number id h)
  at_id index l None e = inl refl
  at_id index l (Some id) e = elim (put_held joint number id (stands (location_place s index))) [ inl none ↦ inl none | inr one ↦ inr (one.0, id, one.1, refl, one.2) ]

  at_location : (index : ℕ) (l : Location) → (location_held joint stands number s index l ≡ [])
      ⊎ ((h : Held) × (id : ℤ) × (location_held joint stands number s index l ≡ h ∷ []) × (l.id ≡ Some id) × IsHeldOf joint number id h)
  at_location index l = at_id index l l.id refl

  abbrev these : ℕ → List Location → List Held
  these index ls = each_numbered (location_held joint stands number s) index ls

  few_held : (index : ℕ) (ls : List Location) → length (these index ls) ≤ length ls
  few_held index [] = omega arith
  few_held index (l ∷ ls) =
      let rest : length (these (suc index) ls) ≤ length ls = few_held (suc index) ls in
      elim (at_location index l) [
        | inl none ↦ omega (arith, rest, length-append (location_held joint stands number s index l) (these (suc index) ls), ap length none)
        | inr one ↦ omega (arith, rest, length-append (location_held joint stands number s index l) (these (suc index) ls), ap length one.2)
      ]

  -- each is of a location of the world, whose locations are these from some place on
  each_of : (w : World) (index : ℕ) (ls : List Location) → ((k : ℕ) → slice_get ls k ≡ slice_get w.locations (index + k)) → All (IsOfOne joint number w) (these index ls)
  each_of w index [] same = All-nil (IsOfOne joint number w)
  each_of w index (l ∷ ls) same =
      let here : index + 0 ≡ index = omega arith in
      let at : slice_get w.locations index ≡ Some l = ap (slice_get w.locations) (sym here) ∙ sym (same 0) in
      let rest : All (IsOfOne joint number w) (these (suc index) ls) =
      each_of w (suc index) ls (λ k. let next : index + suc k ≡ suc index + k = omega arith in same (suc k) ∙ ap (slice_get w.locations) next) in
      let P : List Held → Type 0 = λ hs. All (IsOfOne joint number w) (hs ++ these (suc index) ls) in
      elim (at_location index l) [
        | inl none ↦ subst P (sym none) rest
        | inr one ↦ subst P (sym one.2) (All-cons (IsOfOne joint number w) one.0 (these (suc index) ls) (index, l, one.1, at, one.3, one.4) rest)
      ]

  ids_among : (index : ℕ) (ls : List Location) → All (HasIdAmong ls) (these index ls)
  ids_among index [] = All-nil (HasIdAmong [])
  ids_among index (l ∷ ls) =
      let later : All (HasIdAmong (l ∷ ls)) (these (suc index) ls) = λ k d m i apart. ids_among (suc index) ls k d m i (skip i l.id (map location_id ls) apart) in
      let P : List Held → Type 0 = λ hs. All (HasIdAmong (l ∷ ls)) (hs ++ these (suc index) ls) in
      elim (at_location index l) [
        | inl none ↦ subst P (sym none) later
        | inr one ↦
            let first : HasIdAmong (l ∷ ls) one.0 = λ d apart.
            ap (int_eq d) one.4.location ∙ (subst (λ o. AllByRecursion (λ y. int_eq d y ≡ false) (filter_map (λ i. i) (o ∷ map location_id ls))) one.3 apart).0 in
            subst P (sym one.2) (All-cons (HasIdAmong (l ∷ ls)) one.0 (these (suc index) ls) first later)
      ]

  slot_apart : (index : ℕ) (ls : List Location) → IdsDiffer (map location_id ls) → IsDistinct same_held (these index ls)
  unfolding IsDistinct
  slot_apart index [] h = tt
  slot_apart index (l ∷ ls) h =
      let later : IsDistinct same_held (these (suc index) ls) = slot_apart (suc index) ls (rest_differ l.id (map location_id ls) h) in
      let P : List Held → Type 0 = λ hs. IsDistinct same_held (hs ++ these (suc index) ls) in
      elim (at_location index l) [
        | inl none ↦ subst P (sym none) later
        | inr one ↦
            let first = first_differs one.1 l.id (map location_id ls) one.3 h in
            let here : AllByRecursion (λ y. same_held one.0 y ≡ false) (these (suc index) ls) =
            apart_where same_held (HasIdAmong ls) one.0 (these (suc index) ls) (λ y among. differ_ids one.0 y (ap (λ d. int_eq d y.location) one.4.location ∙ among one.1 first)) (ids_among (suc index) ls) in
            subst P (sym one.2) (here, later)
      ]

-- ---- all slots

-- an entry of some slot, which has this number or a later one
abbrev pub IsOfSlot : Joint → ℕ → List Slot → Held → Type 0
IsOfSlot joint number ss h = (k : ℕ) × (s : Slot) × (slice_get ss k ≡ Some s) × IsOfOne joint (number + k) s.world h

later_slot : (joint : Joint) (number : ℕ) (s : Slot) (ss : List Slot) (h : Held) → IsOfSlot joint (suc number) ss h → IsOfSlot joint number (s ∷ ss) h
later_slot joint number s ss h (k, t, at, of) =
    let next : suc number + k ≡ number + suc k = omega arith in
    (suc k, t, at, subst (λ n. IsOfOne joint n t.world h) next of)

module _ (joint : Joint) (stands : ℕ → Option Put) where
  abbrev those : ℕ → List Slot → List Held
  those number ss = each_numbered (slot_held joint stands) number ss

  pub all_of : (number : ℕ) (ss : List Slot) → All (IsOfSlot joint number ss) (those number ss)
  all_of number [] = All-nil (IsOfSlot joint number [])
  all_of number (s ∷ ss) =
      let here : number ≡ number + 0 = omega arith in
      let these_here : All (IsOfOne joint number s.world) (slot_held joint stands number s) =
      each_of joint stands number s s.world 0 s.world.locations (λ k. let at : k ≡ 0 + k = omega arith in ap (slice_get s.world.locations) at) in
      All-append (IsOfSlot joint number (s ∷ ss)) (slot_held joint stands number s) (those (suc number) ss)
      (λ k d l. (0, s, refl, subst (λ n. IsOfOne joint n s.world (get_or (slot_held joint stands number s) k d)) here (these_here k d l)))
      (λ k d l. later_slot joint number s ss (get_or (those (suc number) ss) k d) (all_of (suc number) ss k d l))

  pub all_apart : (number : ℕ) (ss : List Slot) → All (λ s. IdsDiffer (map location_id s.world.locations)) ss → IsDistinct same_held (those number ss)
  unfolding IsDistinct
  all_apart number [] h = tt
  all_apart number (s ∷ ss) h =
      let Differ : Slot → Type 0 = λ s. IdsDiffer (map location_id s.world.locations) in
      let of = each_of joint stands number s s.world 0 s.world.locations (λ k. let at : k ≡ 0 + k = omega arith in ap (slice_get s.world.locations) at) in
      let cross : All (λ x. AllByRecursion (λ y. same_held x y ≡ false) (those (suc number) ss)) (slot_held joint stands number s) =
      λ k d l. apart_where same_held (IsOfSlot joint (suc number) ss) (get_or (slot_held joint stands number s) k d) (those (suc number) ss) (λ y later. differ_slots (get_or (slot_held joint stands number s) k d) y (omega (arith, (of k d l).5.slot, later.3.5.slot))) (all_of (suc number) ss) in
      distinct_both same_held (slot_held joint stands number s) (those (suc number) ss) (slot_apart joint stands number s 0 s.world.locations (All-head Differ s ss h)) (all_apart (suc number) ss (All-tail Differ s ss h)) cross

  pub few_in_all : (number : ℕ) (ss : List Slot) → length (those number ss) ≤ place_total ss
  few_in_all number [] = omega arith
  few_in_all number (s ∷ ss) =
      omega (arith, length-append (slot_held joint stands number s) (those (suc number) ss), few_held joint stands number s 0 s.world.locations, few_in_all (suc number) ss, sum_by-cons slot_places s ss)
