-- The locations with an id of joined tables: no two are one location, and each location with an id is there.
use Rattle.std.proofs.Common.{◌≡◌, ◌≤◌, ◌+◌, ℕ, ℤ, zero, suc, List, [], ◌∷◌, ◌++◌, Bool, true, false, Option, Some, None, map, filter_map, int_eq, slice_get, get_or, is_lt, IsPermutation, IsSortedBy, refl, sym, ap, subst, ◌∙◌, arith}
use Rattle.std.specs.Prelude.{All, Contains, is_some}
use Rattle.std.specs.List.{IsDistinct, AllByRecursion}
use Rattle.std.proofs.lemmas.List.{map-append}
use Rattle.std.proofs.lemmas.List.Elements.{All-nil, All-cons, All-head, All-tail, All-append, All-map}
use Rattle.std.proofs.lemmas.List.Sorted.{All-permutation, Contains-permutation}
use Rattle.mw_model.specs.Seed.{Held, held_among}
use Rattle.mw_multi.specs.World.{Location}
use Rattle.mw_multi.specs.WorldKept.{location_id}
use Rattle.mw_multi.specs.Names.{IdsDiffer}
use Rattle.mw_multi.specs.Joint.{Slot, Joint, IsJoint}
use Rattle.mw_multi.specs.Numbered.{each_numbered}
use Rattle.mw_multi.specs.Placement.{slot_at}
use Rattle.mw_multi.proofs.Numbered.{numbered_all}
use Rattle.mw_multi.proofs.Sites.{get_some}
use Rattle.mw_multidata.specs.SeedKept.{held_cmp}
use Rattle.mw_seeds.specs.Agreeing.{has_location}
use Rattle.mw_seeds.specs.Keys.{Key, entry_at, as_held, key_where, location_key, slot_keys, all_keys, AreKeys}
use Rattle.mw_seeds.proofs.Apart.{among_there, among_is}
use Rattle.mw_seeds.proofs.Elements.{in_numbered, here}
use Rattle.mw_seeds.proofs.FilePlaced.{IsLocated, located, has_it}
use Rattle.mw_seeds.proofs.SeedHeld.{skip, rest_differ, distinct_both, apart_where, differ_slots, differ_ids}
use Rattle.mw_seeds.proofs.Sorting.{same_held, keys_ascend}

-- ---- no two are one location

module _ (number : ℕ) where
  abbrev these : ℕ → List Location → List Key
  these i ls = each_numbered (location_key number) i ls

  abbrev Other : ℤ → Held → Type 0
  Other id y = same_held (entry_at number id) y ≡ false

  one_other : (id : ℤ) (i : ℕ) (ls : List Location) (o : Option ℤ) → AllByRecursion (λ y. int_eq id y ≡ false) (filter_map (λ j. j) (o ∷ map location_id ls)) → AllByRecursion (Other id) (map as_held (these i ls))
      → AllByRecursion (Other id) (map as_held (key_where number o ++ these i ls))
  one_other id i ls None h later = later
  one_other id i ls (Some j) h later = (differ_ids (entry_at number id) (entry_at number j) h.0, later)

  other_ids : (id : ℤ) (i : ℕ) (ls : List Location) → AllByRecursion (λ y. int_eq id y ≡ false) (filter_map (λ j. j) (map location_id ls)) → AllByRecursion (Other id) (map as_held (these i ls))
  other_ids id i [] h = tt
  other_ids id i (l ∷ ls) h = one_other id (suc i) ls l.id h (other_ids id (suc i) ls (skip id l.id (map location_id ls) h))

  one_more : (i : ℕ) (ls : List Location) (o : Option ℤ) → IdsDiffer (o ∷ map location_id ls) → IsDistinct same_held (map as_held (these i ls)) → IsDistinct same_held (map as_held (key_where number o ++ these i ls))
  unfolding IsDistinct
  one_more i ls None h later = later
  one_more i ls (Some id) h later = (other_ids id i ls h.0, later)

  slot_distinct : (i : ℕ) (ls : List Location) → IdsDiffer (map location_id ls) → IsDistinct same_held (map as_held (these i ls))
  unfolding IsDistinct
  slot_distinct i [] h = tt
  slot_distinct i (l ∷ ls) h = one_more (suc i) ls l.id h (slot_distinct (suc i) ls (rest_differ l.id (map location_id ls) h))

  abbrev IsOf : Held → Type 0
  IsOf h = h.slot ≡ number

  one_of : (i : ℕ) (ls : List Location) (o : Option ℤ) → All IsOf (map as_held (these i ls)) → All IsOf (map as_held (key_where number o ++ these i ls))
  one_of i ls None later = later
  one_of i ls (Some id) later = All-cons IsOf (entry_at number id) (map as_held (these i ls)) refl later

  of_slot : (i : ℕ) (ls : List Location) → All IsOf (map as_held (these i ls))
  of_slot i [] = All-nil IsOf
  of_slot i (l ∷ ls) = one_of (suc i) ls l.id (of_slot (suc i) ls)

abbrev those : ℕ → List Slot → List Key
those number ss = each_numbered slot_keys number ss

from_slot : (number : ℕ) (ss : List Slot) → All (λ h. number ≤ h.slot) (map as_held (those number ss))
from_slot number [] = All-nil (λ h. number ≤ h.slot)
from_slot number (s ∷ ss) =
    let first = map as_held (slot_keys number s) in
    let rest = map as_held (those (suc number) ss) in
    let From : Held → Type 0 = λ h. number ≤ h.slot in
    subst (All From) (sym (map-append as_held (slot_keys number s) (those (suc number) ss)))
    (All-append From first rest (λ k d l. let at = of_slot number 0 s.world.locations k d l in omega (arith, at)) (λ k d l. let at = from_slot (suc number) ss k d l in omega (arith, at)))

all_distinct : (number : ℕ) (ss : List Slot) → All (λ s. IdsDiffer (map location_id s.world.locations)) ss → IsDistinct same_held (map as_held (those number ss))
unfolding IsDistinct
all_distinct number [] h = tt
all_distinct number (s ∷ ss) h =
    let Differ : Slot → Type 0 = λ s. IdsDiffer (map location_id s.world.locations) in
    let first = map as_held (slot_keys number s) in
    let rest = map as_held (those (suc number) ss) in
    let cross : All (λ x. AllByRecursion (λ y. same_held x y ≡ false) rest) first =
    λ k d l. apart_where same_held (λ y. suc number ≤ y.slot) (get_or first k d) rest (λ y later. let at = of_slot number 0 s.world.locations k d l in differ_slots (get_or first k d) y (omega (arith, at, later))) (from_slot (suc number) ss) in
    subst (IsDistinct same_held) (sym (map-append as_held (slot_keys number s) (those (suc number) ss)))
    (distinct_both same_held first rest (slot_distinct number 0 s.world.locations (All-head Differ s ss h)) (all_distinct (suc number) ss (All-tail Differ s ss h)) cross)

pub keys_are : (joint : Joint) → IsJoint joint → (entries keys : List Key) → entries ≡ all_keys joint.slots → IsPermutation entries keys → IsSortedBy (λ a b. is_lt (held_cmp (as_held a) (as_held b))) keys → AreKeys joint.slots keys
keys_are joint kept entries keys is p s =
    let differ : IsDistinct same_held (map as_held (all_keys joint.slots)) = all_distinct 1 joint.slots (λ k d l. (kept.each k d l).world.locations.ids) in
    record {
      same = subst (λ ks. IsPermutation ks keys) is p;
      ascend = keys_ascend entries keys p s (subst (λ ks. IsDistinct same_held (map as_held ks)) (sym is) differ);
    }

-- ---- each location with an id is there

module _ (slots : List Slot) where
  abbrev IsThere : Key → Type 0
  IsThere k = IsLocated slots k.slot k.location

  key_there : (before : ℕ) (s : Slot) (index : ℕ) (l : Location) (o : Option ℤ) → slice_get slots before ≡ Some s → slice_get s.world.locations index ≡ Some l → l.id ≡ o → All IsThere (key_where (suc before) o)
  key_there before s index l None at listed e = All-nil IsThere
  key_there before s index l (Some id) at listed e =
      All-cons IsThere record { slot = suc before; location = id } [] record { before = before; is = refl; owner = s; there = at; index = index; location = l; listed = listed; named = e } (All-nil IsThere)

  all_there : All IsThere (all_keys slots)
  all_there =
      numbered_all IsThere slot_keys 1 slots
      (λ k s inside e. let number : suc k ≡ 1 + k = omega arith in
      subst (λ n. All IsThere (slot_keys n s)) number
      (numbered_all IsThere (location_key (suc k)) 0 s.world.locations
      (λ i l there is. key_there k s i l l.id (get_some slots k s inside ∙ ap Some (sym e)) (get_some s.world.locations i l there ∙ ap Some (sym is)) refl)))

  module _ (keys : List Key) (are : AreKeys slots keys) where
    abbrev held : List Held
    held = map as_held keys

    each_listed : All (λ h. IsLocated slots h.slot h.location) held
    each_listed = All-map (λ h. IsLocated slots h.slot h.location) as_held keys (All-permutation IsThere (all_keys slots) keys are.same all_there)

    found_there : (s : ℕ) (l : ℤ) (o : Option Held) → held_among held s l ≡ o → is_some o ≡ true → has_location l (slot_at slots s) ≡ true
    found_there s l None e is = cc
    found_there s l (Some h) e is =
        let found = among_is (λ h. IsLocated slots h.slot h.location) s l held h each_listed e in
        has_it slots s l (subst (λ n. IsLocated slots n l) found.slot (subst (λ i. IsLocated slots h.slot i) found.location found.holds))

    contains_mapped : (ks : List Key) (k : Key) → Contains ks k → Contains (map as_held ks) (as_held k)
    contains_mapped [] k (i, l, e) = absurd (omega (arith, l))
    contains_mapped (x ∷ ks) k (zero, l, e) = (0, omega arith, ap as_held e)
    contains_mapped (x ∷ ks) k (suc i, l, e) = let later = contains_mapped ks k (i, omega (arith, l), e) in (suc later.0, omega (arith, later.1), later.2)

    there_found : (s : ℕ) (l : ℤ) → IsLocated slots s l → is_some (held_among held s l) ≡ true
    there_found s l at =
        let key : Key = record { slot = suc at.before; location = l } in
        let number : suc at.before ≡ 1 + at.before = omega arith in
        let one : location_key (suc at.before) (0 + at.index) at.location ≡ key ∷ [] = ap (key_where (suc at.before)) at.named in
        let among : Contains (all_keys slots) key =
        in_numbered slot_keys 1 slots at.before at.owner key at.there (subst (λ n. Contains (slot_keys n at.owner) key) number
        (in_numbered (location_key (suc at.before)) 0 at.owner.world.locations at.index at.location key at.listed (here key (location_key (suc at.before) (0 + at.index) at.location) one))) in
        let found : held_among held (suc at.before) l ≡ Some (as_held key) = among_there held (as_held key) are.ascend (contains_mapped keys key (Contains-permutation (all_keys slots) keys key are.same among)) in
        ap (λ n. is_some (held_among held n l)) at.is ∙ ap is_some found

    same_truth : (a b : Bool) → (a ≡ true → b ≡ true) → (b ≡ true → a ≡ true) → a ≡ b
    same_truth true b f g = sym (f refl)
    same_truth false true f g = g refl
    same_truth false false f g = refl

    -- a key is there where the tables have the location
    pub keys_tell : (s : ℕ) (l : ℤ) → is_some (held_among held s l) ≡ has_location l (slot_at slots s)
    keys_tell s l =
        same_truth (is_some (held_among held s l)) (has_location l (slot_at slots s)) (found_there s l (held_among held s l) refl)
        (λ has. there_found s l (located slots s l has))
