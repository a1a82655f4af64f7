-- The owners of a receiver, and how many numbers they make of an item.
use Rattle.std.proofs.Common.{◌≡◌, ℕ, zero, suc, ◌+◌, ◌-◌, ◌<◌, ◌≤◌, ap, List, [], ◌∷◌, length, Bool, true, false, refl, Option, None, Some, arith}
use Rattle.std.specs.Prelude.{All, flat_map, nat_le, slice_get, if◌then◌else◌}
use Rattle.std.proofs.lemmas.List.{length-append}
use Rattle.std.proofs.lemmas.List.Elements.{All-weaker}
use Rattle.mw_multi.specs.PlayersKept.{IsSlotNumber}
use Rattle.mw_multi.specs.RulesKept.{is_progression_item}
use Rattle.mw_multi.specs.Joint.{Slot, Link, Joint, IsJoint, LinkKept, slot_at}
use Rattle.mw_multi.specs.Placement.{Put, item_in, members_of, owners, numbers_of, owner_numbers, put_numbers}
use Rattle.mw_multi.proofs.Few.{rising-le}

-- ---- a slot is its own owner

slot_within : (slots : List Slot) (number : ℕ) (s : Slot) → slot_at slots number ≡ Some s → number ≤ length slots
slot_within slots zero s e = cc
slot_within [] (suc k) s e = cc
slot_within (t ∷ slots) (suc zero) s e = omega arith
slot_within (t ∷ slots) (suc (suc k)) s e = let later = slot_within slots (suc k) s e in omega arith

owners_where : (b : Bool) (number : ℕ) (others : List ℕ) → b ≡ true → (if b then number ∷ [] else others) ≡ number ∷ []
owners_where true number others e = refl
owners_where false number others e = cc

pub owners_within : (j : Joint) (number : ℕ) → number ≤ length j.slots → owners j number ≡ number ∷ []
owners_within j number h =
    owners_where (nat_le number (length j.slots)) number (members_of (slice_get j.links (number - suc (length j.slots)))) (grind (arith, h))

pub owners_of_slot : (j : Joint) (number : ℕ) (s : Slot) → slot_at j.slots number ≡ Some s → owners j number ≡ number ∷ []
owners_of_slot j number s e = owners_within j number (slot_within j.slots number s e)

-- ---- how many numbers

one_or_none : (b : Bool) (n : ℕ) → length (if b then n ∷ [] else []) ≤ 1
one_or_none true n = omega arith
one_or_none false n = omega arith

numbers_of_le : (o : Option Slot) (item : ℕ) → length (numbers_of o item) ≤ 1
numbers_of_le None item = omega arith
numbers_of_le (Some s) item = one_or_none (is_progression_item (item_in item s)) (s.first_item + item)

pub owners_numbers_le : (slots : List Slot) (item : ℕ) (os : List ℕ) → length (flat_map (owner_numbers slots item) os) ≤ length os
owners_numbers_le slots item [] = omega arith
owners_numbers_le slots item (o ∷ os) =
    omega (arith, length-append (owner_numbers slots item o) (flat_map (owner_numbers slots item) os), numbers_of_le (slot_at slots o) item, owners_numbers_le slots item os)

-- a slot makes at most one
pub slot_numbers_le : (j : Joint) (put : Put) → put.receiver ≤ length j.slots → length (put_numbers j put) ≤ 1
slot_numbers_le j put h = omega (arith, owners_numbers_le j.slots put.item (owners j put.receiver), ap length (owners_within j put.receiver h))

members_le : (j : Joint) (k : ℕ) (links : List Link) → length j.slots + length links ≤ 1024 → All (LinkKept j.slots) links → length (members_of (slice_get links k)) ≤ 1024
members_le j k [] few each = omega arith
members_le j zero (l ∷ links) few each =
    let fewer_slots : length j.slots < 1024 = omega (arith, few) in
    let link : LinkKept j.slots l = each 0 l (omega arith) in
    let below : All (λ m. m < 1024) l.members = All-weaker (IsSlotNumber (length j.slots)) (λ m. m < 1024) (λ m s. omega (arith, s.high, fewer_slots)) l.members link.members in
    rising-le l.members 1024 link.ascend below
members_le j (suc k) (l ∷ links) few each = members_le j k links (omega (arith, few)) (λ i d h. each (suc i) d (omega arith))

owners_le_where : (b : Bool) (number : ℕ) (others : List ℕ) → length others ≤ 1024 → length (if b then number ∷ [] else others) ≤ 1024
owners_le_where true number others h = omega arith
owners_le_where false number others h = h

-- a receiver has at most 1,024 owners, and makes no more numbers
pub put_numbers_le : (j : Joint) (put : Put) → IsJoint j → length (put_numbers j put) ≤ 1024
put_numbers_le j put kept =
    let members = members_le j (put.receiver - suc (length j.slots)) j.links kept.few_receivers kept.links in
    omega (
      arith,
      owners_numbers_le j.slots put.item (owners j put.receiver),
      owners_le_where (nat_le put.receiver (length j.slots)) put.receiver (members_of (slice_get j.links (put.receiver - suc (length j.slots)))) members,
    )
