-- The table of a placement is one that reach takes.
use Rattle.std.proofs.Common.{◌≡◌, ℕ, zero, suc, ◌+◌, ◌*◌, ◌<◌, ◌≤◌, Bool, true, false, cond, eqb, List, [], ◌∷◌, Option, Some, None, length, get_or, All, refl, sym, ap, subst, ◌∙◌, inl, inr, arith}
use Rattle.std.specs.Prelude.{filter, flat_map, slice_get, sum_by}
use Rattle.std.proofs.lemmas.Bool.{false≢true, cases_Bool, cases_eq, eq-eqb, ne_eqb}
use Rattle.std.proofs.lemmas.List.{length-append, get_or_default}
use Rattle.std.proofs.lemmas.List.Concat.{flat_map-cons}
use Rattle.std.proofs.lemmas.List.Elements.{All-nil, All-cons, All-append}
use Rattle.std.proofs.lemmas.List.Sums.{sum_by-cons}
use Rattle.mw_multi.specs.Joint.{Joint, Slot, AreNumbered, IsJoint, slot_items, item_total}
use Rattle.mw_multi.specs.RulesKept.{is_progression_item}
use Rattle.mw_multi.specs.Placement.{Put, item_in, owners, numbers_in, numbers_of, owner_numbers, put_numbers, stands_at, standing, numbers_at, IsPlaced}
use Rattle.mw_multi.specs.World.{Item}
use Rattle.mw_multi.proofs.Owners.{put_numbers_le}
use Rattle.mw_reach.specs.Reached.{IsPlacedFor}
use Rattle.mw_reach.proofs.Counting.{sum_below, sum_below-add, sum_below-zero, sum_below-first}
use Rattle.mw_reach.proofs.Slots.{items_before}

-- ---- each number is an item's

item_there : (items : List Item) (i : ℕ) → is_progression_item (slice_get items i) ≡ true → i < length items
item_there [] i e = absurd (false≢true e)
item_there (x ∷ items) zero e = omega arith
item_there (x ∷ items) (suc i) e = omega (arith, item_there items i e)

slot_there : (slots : List Slot) (n : ℕ) (s : Slot) → slice_get slots n ≡ Some s → (n < length slots) × (s ≡ get_or slots n s)
slot_there [] n s e = cc
slot_there (t ∷ slots) zero s e = (omega arith, cc)
slot_there (t ∷ slots) (suc n) s e = let later = slot_there slots n s e in (omega (arith, later.0), later.1)

module _ (slots : List Slot) (numbered : AreNumbered 0 0 slots) where
  in_slot : (item n : ℕ) (s : Slot) → slice_get slots n ≡ Some s → All (λ i. i < item_total slots) (numbers_in item s)
  in_slot item n s e = elim (cases_Bool (is_progression_item (item_in item s))) [
    | inl asked ↦
        let there = slot_there slots n s e in
        let within : item < slot_items s = item_there s.world.items item asked in
        let before : s.first_item + slot_items s ≤ 0 + item_total slots = subst (λ t. t.first_item + slot_items t ≤ 0 + item_total slots) (sym there.1) (items_before 0 0 slots n s numbered there.0) in
        rw asked (All-cons (λ i. i < item_total slots) (s.first_item + item) [] (omega arith) (All-nil (λ i. i < item_total slots)))
    | inr other ↦ rw other (All-nil (λ i. i < item_total slots))
  ]

  of_slot : (item n : ℕ) (o : Option Slot) → slice_get slots n ≡ o → All (λ i. i < item_total slots) (numbers_of o item)
  of_slot item n None e = All-nil (λ i. i < item_total slots)
  of_slot item n (Some s) e = in_slot item n s e

  of_owner : (item owner : ℕ) → All (λ i. i < item_total slots) (owner_numbers slots item owner)
  of_owner item zero = All-nil (λ i. i < item_total slots)
  of_owner item (suc n) = of_slot item n (slice_get slots n) refl

  of_owners : (item : ℕ) (os : List ℕ) → All (λ i. i < item_total slots) (flat_map (owner_numbers slots item) os)
  of_owners item [] = All-nil (λ i. i < item_total slots)
  of_owners item (o ∷ os) =
      rw (flat_map-cons (owner_numbers slots item) o os) (All-append (λ i. i < item_total slots) (owner_numbers slots item o) (flat_map (owner_numbers slots item) os) (of_owner item o) (of_owners item os))

of_puts : (joint : Joint) → AreNumbered 0 0 joint.slots → (puts : List Put) → All (λ i. i < item_total joint.slots) (flat_map (put_numbers joint) puts)
of_puts joint numbered [] = All-nil (λ i. i < item_total joint.slots)
of_puts joint numbered (p ∷ puts) =
    rw (flat_map-cons (put_numbers joint) p puts) (All-append (λ i. i < item_total joint.slots) (put_numbers joint p) (flat_map (put_numbers joint) puts) (of_owners joint.slots numbered p.item (owners joint p.receiver)) (of_puts joint numbered puts))

-- ---- no more numbers than the items at locations make

front : (f : Put → List ℕ) (b : Bool) (p : Put) (puts : List Put) → length (flat_map f (cond b (p ∷ puts) puts)) ≡ cond b (length (f p)) 0 + length (flat_map f puts)
front f true p puts = ap length (flat_map-cons f p puts) ∙ length-append (f p) (flat_map f puts)
front f false p puts = omega arith

abbrev many : Joint → Put → ℕ
many joint put = length (put_numbers joint put)

abbrev many_at : Joint → ℕ → Put → ℕ
many_at joint place put = cond (eqb put.place place) (many joint put) 0

standing-length : (joint : Joint) (puts : List Put) (place : ℕ) → length (standing joint puts place) ≡ sum_by (many_at joint place) puts
standing-length joint [] place = omega arith
standing-length joint (p ∷ puts) place =
    omega (arith, front (put_numbers joint) (eqb p.place place) p (filter (stands_at place) puts), sum_by-cons (many_at joint place) p puts, standing-length joint puts place)

-- a number that counts at one place alone
past-zero : (n q m : ℕ) → n ≤ q → sum_below n (λ k. cond (eqb q k) m 0) ≡ 0
past-zero zero q m h = refl
past-zero (suc n) q m h =
    let apart : cond (eqb q n) m 0 ≡ 0 = ap (λ b. cond b m 0) (ne_eqb q n (λ e. absurd (omega arith))) in
    omega (arith, past-zero n q m (omega arith), apart)

once-le : (n q m : ℕ) → sum_below n (λ k. cond (eqb q k) m 0) ≤ m
once-le zero q m = omega arith
once-le (suc n) q m = elim (cases_eq q n) [
  | inl same ↦ let here : cond (eqb q n) m 0 ≡ m = ap (λ b. cond b m 0) (eq-eqb q n same) in omega (arith, past-zero n q m (omega arith), here)
  | inr other ↦ let apart : cond (eqb q n) m 0 ≡ 0 = ap (λ b. cond b m 0) (ne_eqb q n other) in omega (arith, once-le n q m, apart)
]

sum_below-same : (n : ℕ) (f g : ℕ → ℕ) → ((k : ℕ) → f k ≡ g k) → sum_below n f ≡ sum_below n g
sum_below-same zero f g h = refl
sum_below-same (suc n) f g h = omega (arith, sum_below-same n f g h, h n)

puts-le : (joint : Joint) (n : ℕ) (puts : List Put) → sum_below n (λ k. sum_by (many_at joint k) puts) ≤ sum_by (many joint) puts
puts-le joint n [] = omega (arith, sum_below-zero n)
puts-le joint n (p ∷ puts) =
    omega (
      arith,
      sum_below-same n (λ k. sum_by (many_at joint k) (p ∷ puts)) (λ k. many_at joint k p + sum_by (many_at joint k) puts) (λ k. sum_by-cons (many_at joint k) p puts),
      sum_below-add n (λ k. many_at joint k p) (λ k. sum_by (many_at joint k) puts),
      once-le n p.place (many joint p),
      puts-le joint n puts,
      sum_by-cons (many joint) p puts,
    )

lengths-below : (table : List (List ℕ)) → sum_by length table ≡ sum_below (length table) (λ k. length (numbers_at table k))
lengths-below [] = refl
lengths-below (entry ∷ table) = omega (arith, sum_by-cons length entry table, lengths-below table, sum_below-first (length table) (λ k. length (numbers_at (entry ∷ table) k)))

-- a table has no more numbers than its items make
pub numbers_placed-le : (joint : Joint) (puts : List Put) (table : List (List ℕ)) → IsPlaced joint puts table → sum_by length table ≤ sum_by (λ put. length (put_numbers joint put)) puts
numbers_placed-le joint puts table placed =
    omega (
      arith,
      lengths-below table,
      sum_below-same (length table) (λ k. length (numbers_at table k)) (λ k. sum_by (many_at joint k) puts) (λ k. ap length (placed.entries k) ∙ standing-length joint puts k),
      puts-le joint (length table) puts,
    )

owners-le : (joint : Joint) → IsJoint joint → (puts : List Put) → sum_by (many joint) puts ≤ 1024 * length puts
owners-le joint kept [] = omega arith
owners-le joint kept (p ∷ puts) = omega (arith, sum_by-cons (many joint) p puts, put_numbers_le joint p kept, owners-le joint kept puts)

-- and no more than 1,024 for each
pub placed-le : (joint : Joint) → IsJoint joint → (puts : List Put) (table : List (List ℕ)) → IsPlaced joint puts table → sum_by length table ≤ 1024 * length puts
placed-le joint kept puts table placed = omega (arith, numbers_placed-le joint puts table placed, owners-le joint kept puts)

-- what stands at locations of the joint is a table for reach
pub placed_for : (joint : Joint) → IsJoint joint → (puts : List Put) (table : List (List ℕ)) → IsPlaced joint puts table → IsPlacedFor joint table
placed_for joint kept puts table placed = record {
  size = placed.size;
  items = λ p d h. rw (get_or_default table p d [] h, placed.entries p) (of_puts joint kept.numbered (filter (stands_at p) puts));
}
