-- What stands at a place, as one item more is put.
use Rattle.std.proofs.Common.{◌≡◌, ◌≢◌, ℕ, zero, suc, ◌+◌, ◌-◌, ◌<◌, ◌≤◌, ◌∙◌, sym, ap, List, [], ◌∷◌, ◌++◌, length, get_or, set, Bool, true, false, refl, arith, append-nil, length-set, take, add-one}
use Rattle.std.specs.Prelude.{Option, Some, is_some, filter, sum_by, flat_map, nat_lt, ◌==◌, if◌then◌else◌, slice_get}
use Rattle.std.proofs.lemmas.Grind.{flat_map-append}
use Rattle.std.proofs.lemmas.Bool.Decides.{Decides-eqb}
use Rattle.std.proofs.lemmas.List.{get_or-set_same, get_or-set_other, length-append}
use Rattle.std.proofs.Math.Seq.{take-suc}
use Rattle.std.proofs.lemmas.List.Elements.{filter-append}
use Rattle.std.proofs.lemmas.List.Sums.{sum_by-cons, sum_by-set}
use Rattle.mw_multi.specs.World.{World, place_count}
use Rattle.mw_multi.specs.Joint.{Slot, Joint, AreNumbered, place_total, item_total, slot_places}
use Rattle.mw_multi.proofs.Numbering.{SlotFits, slot_fits}
use Rattle.mw_multi.specs.Placement.{Put, Site, slot_at, site_in, site_from, stands_at, put_numbers, standing, numbers_at, IsPlaced}

pub nat_lt_true : (a b : ℕ) → nat_lt a b ≡ true → a < b
nat_lt_true a b e = grind arith

pub nat_lt_false : (a b : ℕ) → nat_lt a b ≡ false → b ≤ a
nat_lt_false a b e = grind arith

apart : (a b : ℕ) → (a == b) ≡ false → a ≡ b → ⊥
apart a b e same = let equal = (Decides-eqb a b).1 same in cc

-- ---- a location's place is one of the joint's

-- a location of the slot's world, or of a later slot's
here_or_later : (w : World) (number place : ℕ) (here : Bool) (later : Option Site) (total : ℕ) → (nat_lt place (place_count w)) ≡ here
    → (is_some later ≡ true → place - place_count w < total) → is_some (if here then site_in number w place else later) ≡ true → place < place_count w + total
here_or_later w number place true later total e rest h = let inside = nat_lt_true place (place_count w) e in omega arith
here_or_later w number place false later total e rest h = let fits = rest h in let outside = nat_lt_false place (place_count w) e in omega arith

pub site_within : (number : ℕ) (slots : List Slot) (place : ℕ) → is_some (site_from number slots place) ≡ true → place < place_total slots
site_within number [] place e = cc
site_within number (s ∷ slots) place e =
    let fits = here_or_later s.world number place (nat_lt place (place_count s.world)) (site_from (number + 1) slots (place - place_count s.world)) (place_total slots) refl (site_within (number + 1) slots (place - place_count s.world)) e in
    omega (arith, sum_by-cons slot_places s slots)

-- ---- one put more

only : (b : Bool) (joint : Joint) (put : Put) → flat_map (put_numbers joint) (if b then put ∷ [] else []) ≡ (if b then put_numbers joint put else [])
only true joint put = append-nil (put_numbers joint put)
only false joint put = refl

pub standing_push : (joint : Joint) (puts : List Put) (put : Put) (place : ℕ) → standing joint (puts ++ put ∷ []) place ≡ standing joint puts place ++ (if put.place == place then put_numbers joint put else [])
standing_push joint puts put place =
    ap (flat_map (put_numbers joint)) (filter-append (stands_at place) puts (put ∷ []))
    ∙ flat_map-append (put_numbers joint) (filter (stands_at place) puts) (filter (stands_at place) (put ∷ []))
    ∙ ap (λ last. standing joint puts place ++ last) (only (put.place == place) joint put)

-- what stands in a table where one entry grows
entry_case : (table : List (List ℕ)) (place other : ℕ) (more : List ℕ) (b : Bool) → (place == other) ≡ b → place < length table
    → numbers_at (set table place (numbers_at table place ++ more)) other ≡ numbers_at table other ++ (if b then more else [])
entry_case table place other more true e h =
    let same = (Decides-eqb place other).0 e in
    ap (λ k. numbers_at (set table place (numbers_at table place ++ more)) k) (sym same) ∙ get_or-set_same table place (numbers_at table place ++ more) [] h ∙ ap (λ k. numbers_at table k ++ more) same
entry_case table place other more false e h =
    let differ : other ≢ place = (λ same. absurd (apart place other e (sym same))) in
    get_or-set_other table place other (numbers_at table place ++ more) [] differ ∙ sym (append-nil (numbers_at table other))

entry_grown : (table : List (List ℕ)) (place other : ℕ) (more : List ℕ) → place < length table
    → numbers_at (set table place (numbers_at table place ++ more)) other ≡ numbers_at table other ++ (if place == other then more else [])
entry_grown table place other more h = entry_case table place other more (place == other) refl h

pub placed_put : (joint : Joint) (puts : List Put) (put : Put) (table new : List (List ℕ)) → put.place < length table
    → new ≡ set table put.place (numbers_at table put.place ++ put_numbers joint put) → IsPlaced joint puts table → IsPlaced joint (puts ++ put ∷ []) new
placed_put joint puts put table new h is placed = record {
  size = ap length is ∙ length-set table put.place _ ∙ placed.size;
  entries = λ place.
      ap (λ t. numbers_at t place) is ∙ entry_grown table put.place place (put_numbers joint put) h
      ∙ ap (λ front. front ++ (if put.place == place then put_numbers joint put else [])) (placed.entries place) ∙ sym (standing_push joint puts put place);
}

-- ---- the slot of a number

pub got : {X : Type 0} (xs : List X) (k : ℕ) (x : X) → slice_get xs k ≡ Some x → (k < length xs) × (x ≡ get_or xs k x)
got [] k x e = cc
got (y ∷ xs) zero x e = (omega arith, cc)
got (y ∷ xs) (suc k) x e = let later = got xs k x e in (omega (arith, later.0), later.1)

pub numbered_slot : (slots : List Slot) (number : ℕ) (s : Slot) → AreNumbered 0 0 slots → slot_at slots number ≡ Some s → SlotFits (place_total slots) (item_total slots) s
numbered_slot slots zero s n e = cc
numbered_slot slots (suc k) s n e = let found = got slots k s e in slot_fits slots slots k s n refl found.0 found.1

-- one put more of a placement
pub next_put : (listed puts : List Put) (i : ℕ) (p : Put) → listed ≡ puts → i < length listed → p ≡ get_or listed i p → take (i + 1) puts ≡ take i puts ++ p ∷ []
next_put listed puts i p same h is =
    ap (λ ps. take (i + 1) ps) (sym same) ∙ (rw (add-one) (take-suc listed i p h)) ∙ ap (λ q. take i listed ++ q ∷ []) (sym is) ∙ ap (λ ps. take i ps ++ p ∷ []) same

-- the numbers of a table in which one entry grows
pub sum_grown : (table : List (List ℕ)) (place : ℕ) (more : List ℕ) → place < length table
    → sum_by length (set table place (numbers_at table place ++ more)) ≡ sum_by length table + length more
sum_grown table place more h =
    omega (arith, sum_by-set length table place (numbers_at table place ++ more) [] h, length-append (numbers_at table place) more)
