-- What operations make of values that can be written, with objects in order, can be written, with objects in order.
use Rattle.std.proofs.Common.{◌≡◌, ◌^◌, ◌+◌, ◌*ℤ◌, ℕ, ℤ, pos, negsuc, zero, suc, Bool, true, false, List, [], ◌∷◌, Option, Some, None, Result, Ok, Err, bytes_eq, codes, nat_cmp, is_some, refl, ap, sym, subst, ◌∙◌, arith}
use Rattle.std.specs.Prelude.{if◌then◌else◌, IfOk, IfSome, All}
use Rattle.std.specs.Ordering.{ordering_reverse, int_eq}
use Rattle.std.specs.declared.cmp.Ordering.{Ordering}
use Rattle.std.specs.declared.cmp.Ordering.TheVariants.{Less, Equal, Greater}
use Rattle.std.specs.Cmp.Lexicographic.{slice_cmp}
use Rattle.std.proofs.lemmas.Cmp.{nat_list_cmp_total}
use Rattle.std.proofs.lemmas.Grind.{common_steps}
use Rattle.mw_model.specs.Json.{Json, whole, words, many, members, Items, no_items, item, Members, no_members, member, ComeAfter, IsInRange, IsWritable, IsOrdered, ItemsAreWritable, ItemsAreOrdered, MembersAreWritable, MembersAreOrdered}
use Rattle.mw_model.specs.Passed.{IsPassed}
use Rattle.mw_model.specs.Sets.{Operation, SetPacket}
use Rattle.mw_json.specs.Reading.{max_depth}
use Rattle.mw_json.specs.Sets.{IsOperation}
use Rattle.std.proofs.lemmas.List.Elements.{All-head, All-tail}
use Rattle.mw_protocol.specs.Operations.{Fault, is_number, number_in, in_range, shifted_left, shifted_right, floor_quotient, modulo, remainder, of_bits, of_numbers, of_both, itself, append_items, place_from, without_at, without_place, lacking, without_index, without_member, set_member, set_members, joined, added, removed, popped_index, popped_name, popped, updated_list, updated_object, updated, operated}
use Rattle.mw_protocol.specs.Storage.{Kept, private_key, refused_at, run_from, ◌then◌, put, value_or, before, is_private, within_limits, kept_after, set_case}
use Rattle.mw_storage.specs.Stored.{IsKeepable}
use Rattle.mw_storage.proofs.Shallow.{new_shallow}

-- it can be written, and its objects are in order
record IsKept (j : Json) : Type 0 where
  writable : IsWritable j
  ordered : IsOrdered j

abbrev ItemsKept : Items → Type 0
ItemsKept js = ItemsAreWritable js × ItemsAreOrdered js

abbrev MembersKept : Members → Type 0
MembersKept ms = MembersAreWritable ms × MembersAreOrdered ms

-- ---- lists

append_kept : (js ks : Items) → ItemsKept js → ItemsKept ks → ItemsKept (append_items js ks)
append_kept no_items ks h k = k
append_kept (item j js) ks h k = let r = append_kept js ks (h.0.1, h.1.1) k in ((h.0.0, r.0), (h.1.0, r.1))

without_at_kept : (i : ℕ) (js : Items) → ItemsKept js → ItemsKept (without_at i js)
without_at_kept zero no_items h = h
without_at_kept (suc i) no_items h = h
without_at_kept zero (item j js) h = (h.0.1, h.1.1)
without_at_kept (suc i) (item j js) h = let r = without_at_kept i js (h.0.1, h.1.1) in ((h.0.0, r.0), (h.1.0, r.1))

without_place_kept : (place : Option ℕ) (js : Items) → ItemsKept js → ItemsKept (without_place place js)
without_place_kept None js h = h
without_place_kept (Some i) js h = without_at_kept i js h

without_index_kept : (z : ℤ) (js : Items) → ItemsKept js → ItemsKept (without_index z js)
without_index_kept (pos i) js h = without_at_kept i js h
without_index_kept (negsuc i) js h = h

lacking_kept : (js ks : Items) → ItemsKept ks → ItemsKept (lacking js ks)
lacking_kept js no_items h = h
lacking_kept js (item k ks) h = by (is_some (place_from 0 k js)) (lacking_kept js ks (h.0.1, h.1.1))
  where
    by : (b : Bool) → ItemsKept (lacking js ks) → ItemsKept (if b then lacking js ks else item k (lacking js ks))
    by true r = r
    by false r = ((h.0.0, r.0), (h.1.0, r.1))

-- ---- objects

come_through : (k l : List ℕ) (ms : Members) → slice_cmp nat_cmp k l ≡ Less → ComeAfter l ms → ComeAfter k ms
come_through k l no_members less h = tt
come_through k l (member m j ms) less h = (nat_list_cmp_total.trans k l m less h.0, come_through k l ms less h.1)

after_without : (l name : List ℕ) (ms : Members) → ComeAfter l ms → ComeAfter l (without_member name ms)
after_without l name no_members h = tt
after_without l name (member k j ms) h = by (bytes_eq k name) (after_without l name ms h.1)
  where
    by : (b : Bool) → ComeAfter l (without_member name ms) → ComeAfter l (if b then ms else member k j (without_member name ms))
    by true r = h.1
    by false r = (h.0, r)

without_member_kept : (name : List ℕ) (ms : Members) → MembersKept ms → MembersKept (without_member name ms)
without_member_kept name no_members h = h
without_member_kept name (member k j ms) h = by (bytes_eq k name) (without_member_kept name ms (h.0.1, h.1.2))
  where
    by : (b : Bool) → MembersKept (without_member name ms) → MembersKept (if b then ms else member k j (without_member name ms))
    by true r = (h.0.1, h.1.2)
    by false r = ((h.0.0, r.0), (h.1.0, after_without k name ms h.1.1, r.1))

after_set : (l name : List ℕ) (value : Json) (ms : Members) → slice_cmp nat_cmp l name ≡ Less → ComeAfter l ms → ComeAfter l (set_member name value ms)
after_set l name value no_members less h = (less, tt)
after_set l name value (member k j ms) less h =
    let P : Ordering → Type 0 = λ o. ComeAfter l (elim o [ Less ↦ member name value (member k j ms) | Equal ↦ member k value ms | Greater ↦ member k j (set_member name value ms) ]) in
    elim (slice_cmp nat_cmp name k) as P [ Less ↦ (less, h) | Equal ↦ h | Greater ↦ (h.0, after_set l name value ms less h.1) ]

set_writable : (name : List ℕ) (value : Json) (ms : Members) → IsWritable value → MembersAreWritable ms → MembersAreWritable (set_member name value ms)
set_writable name value no_members v h = (v, tt)
set_writable name value (member k j ms) v h =
    let P : Ordering → Type 0 = λ o. MembersAreWritable (elim o [ Less ↦ member name value (member k j ms) | Equal ↦ member k value ms | Greater ↦ member k j (set_member name value ms) ]) in
    elim (slice_cmp nat_cmp name k) as P [ Less ↦ (v, h) | Equal ↦ (v, h.1) | Greater ↦ (h.0, set_writable name value ms v h.1) ]

set_ordered : (name : List ℕ) (value : Json) (ms : Members) → IsOrdered value → MembersAreOrdered ms → MembersAreOrdered (set_member name value ms)
set_ordered name value no_members v h = (v, tt, tt)
set_ordered name value (member k j ms) v h =
    let Q : Ordering → Type 0 = λ o. MembersAreOrdered (elim o [ Less ↦ member name value (member k j ms) | Equal ↦ member k value ms | Greater ↦ member k j (set_member name value ms) ]) in
    let P : Ordering → Type 0 = λ o. slice_cmp nat_cmp name k ≡ o → Q o in
    let at : P (slice_cmp nat_cmp name k) =
    elim (slice_cmp nat_cmp name k) as P [
      | Less ↦ λ is. (v, (is, come_through name k ms is h.1), h)
      | Equal ↦ λ is. (v, h.1, h.2)
      | Greater ↦ λ is. (h.0, after_set k name value ms (nat_list_cmp_total.antisymm k name ∙ ap ordering_reverse is) h.1, set_ordered name value ms v h.2)
    ] in
    at refl

-- members among which one was set
pub set_stays_writable : (name : List ℕ) (value : Json) (ms all : Members) → all ≡ set_member name value ms → IsWritable value → MembersAreWritable ms → MembersAreWritable all
set_stays_writable name value ms all e v h = subst MembersAreWritable (sym e) (set_writable name value ms v h)

pub set_stays_ordered : (name : List ℕ) (value : Json) (ms all : Members) → all ≡ set_member name value ms → IsOrdered value → MembersAreOrdered ms → MembersAreOrdered all
set_stays_ordered name value ms all e v h = subst MembersAreOrdered (sym e) (set_ordered name value ms v h)

set_members_kept : (ms ns : Members) → MembersKept ms → MembersKept ns → MembersKept (set_members ms ns)
set_members_kept ms no_members h k = h
set_members_kept ms (member name j ns) h k =
    set_members_kept (set_member name j ms) ns (set_writable name j ms k.0.0 h.0, set_ordered name j ms k.1.0 h.1) (k.0.1, k.1.2)

-- ---- numbers

abbrev Made : Result Json Fault → Type 0
Made made = IfOk made IsKept

either : (b : Bool) (r s : Result Json Fault) → Made r → Made s → Made (if b then r else s)
either true r s h k = h
either false r s h k = k

whole_kept : (z : ℤ) → is_number z ≡ true → IsInRange z
whole_kept (pos n) h = grind (arith, common_steps, h)
whole_kept (negsuc n) h = grind (arith, common_steps, h)

in_range_kept : (z : ℤ) → Made (in_range z)
in_range_kept z = by (is_number z) refl
  where
    by : (b : Bool) → is_number z ≡ b → Made (if b then Ok (whole z) else Err Fault.out_of_range)
    by true e = record { writable = whole_kept z e; ordered = tt }
    by false e = tt

left_kept : (z : ℤ) (n : Option ℕ) → Made (shifted_left z n)
left_kept z (Some n) = in_range_kept (z *ℤ pos (2 ^ n))
left_kept z None = tt

right_kept : (z : ℤ) (n : Option ℕ) → Made (shifted_right z n)
right_kept z (Some n) = in_range_kept (floor_quotient z (pos (2 ^ n)))
right_kept z None = tt

bits_kept : (name : List ℕ) (z n : ℤ) → Made (of_bits name z n)
unfolding of_bits
bits_kept name z n =
    search (either, in_range_kept, left_kept, right_kept) depth 12

remainder_kept : (z n : ℤ) → Made (remainder z n)
remainder_kept z n = either (int_eq n (pos 0)) (Err Fault.bad_operation) (in_range (modulo z n)) tt (in_range_kept (modulo z n))

numbers_kept : (name : List ℕ) (z n : ℤ) → Made (of_numbers name z n)
unfolding of_numbers
numbers_kept name z n =
    search (either, in_range_kept, remainder_kept, bits_kept) depth 12

both_kept : (name : List ℕ) (z n : Option ℤ) → Made (of_both name z n)
both_kept name (Some z) (Some n) = numbers_kept name z n
both_kept name (Some z) None = tt
both_kept name None n = tt

itself_kept : (j : Json) → IsKept j → Made (itself j)
itself_kept j h = either (is_some (number_in j)) (Ok j) (Err Fault.bad_operation) h tt

-- ---- operations of several kinds of values

list_of : (js : Items) → ItemsKept js → IsKept (many js)
list_of js h = record { writable = h.0; ordered = h.1 }

object_of : (ms : Members) → MembersKept ms → IsKept (members ms)
object_of ms h = record { writable = h.0; ordered = h.1 }

joined_kept : (js : Items) (operand : Json) → ItemsKept js → IsKept operand → Made (joined js operand)
joined_kept js (many ks) h k = list_of _ (append_kept js ks h (k.writable, k.ordered))
joined_kept js _ h k = tt

added_kept : (j operand : Json) → IsKept j → IsKept operand → Made (added j operand)
added_kept (many js) operand h k = joined_kept js operand (h.writable, h.ordered) k
added_kept (whole z) operand h k = both_kept (codes "add") (number_in (whole z)) (number_in operand)
added_kept _ operand h k = tt

removed_kept : (j operand : Json) → IsKept j → Made (removed j operand)
removed_kept (many js) operand h = list_of _ (without_place_kept (place_from 0 operand js) js (h.writable, h.ordered))
removed_kept _ operand h = tt

popped_index_kept : (js : Items) (z : Option ℤ) → ItemsKept js → Made (popped_index js z)
popped_index_kept js (Some z) h = list_of _ (without_index_kept z js h)
popped_index_kept js None h = tt

popped_name_kept : (ms : Members) (operand : Json) → MembersKept ms → Made (popped_name ms operand)
popped_name_kept ms (words name) h = object_of _ (without_member_kept name ms h)
popped_name_kept ms _ h = tt

popped_kept : (j operand : Json) → IsKept j → Made (popped j operand)
popped_kept (many js) operand h = popped_index_kept js (number_in operand) (h.writable, h.ordered)
popped_kept (members ms) operand h = popped_name_kept ms operand (h.writable, h.ordered)
popped_kept _ operand h = tt

updated_list_kept : (js : Items) (operand : Json) → ItemsKept js → IsKept operand → Made (updated_list js operand)
updated_list_kept js (many ks) h k = list_of _ (append_kept js (lacking js ks) h (lacking_kept js ks (k.writable, k.ordered)))
updated_list_kept js _ h k = tt

updated_object_kept : (ms : Members) (operand : Json) → MembersKept ms → IsKept operand → Made (updated_object ms operand)
updated_object_kept ms (members ns) h k = object_of _ (set_members_kept ms ns h (k.writable, k.ordered))
updated_object_kept ms _ h k = tt

updated_kept : (j operand : Json) → IsKept j → IsKept operand → Made (updated j operand)
updated_kept (many js) operand h k = updated_list_kept js operand (h.writable, h.ordered) k
updated_kept (members ms) operand h k = updated_object_kept ms operand (h.writable, h.ordered) k
updated_kept _ operand h k = tt

operated_kept : (o : Operation) (j : Json) → IsKept o.value → IsKept j → Made (operated o j)
unfolding operated
operated_kept o j v h =
    search (either, v, h, itself_kept, added_kept, removed_kept, popped_kept, updated_kept, both_kept) depth 12

abbrev OperandsKept : List Operation → Type 0
OperandsKept [] = Unit {0}
OperandsKept (o ∷ os) = IsKept o.value × OperandsKept os

run_kept : (i : ℕ) (os : List Operation) (j : Json) → OperandsKept os → IsKept j → IfOk (run_from i os j) IsKept
run_kept i [] j v h = h
run_kept i (o ∷ os) j v h = by (operated o j) (operated_kept o j v.0 h) (λ k. run_kept (i + 1) os k v.1)
  where
    by : (made : Result Json Fault) → Made made → ((k : Json) → IsKept k → IfOk (run_from (i + 1) os k) IsKept) → IfOk (refused_at i made then run_from (i + 1) os) IsKept
    by (Ok k) kept rest = rest k kept
    by (Err fault) kept rest = tt

-- ---- a change

operands : (os : List Operation) → All IsOperation os → OperandsKept os
operands [] h = tt
operands (o ∷ os) h =
    let passed : IsPassed o.value = All-head IsOperation o os h in
    (record { writable = passed.writable; ordered = passed.ordered }, operands os (All-tail IsOperation o os h))

pub new_kept : (os : List Operation) (start new : Json) → All IsOperation os → IsKeepable start → run_from 0 os start ≡ Ok new → IsKeepable new
new_kept os start new h s e =
    let begun : IsKept start = record { writable = s.writable; ordered = s.ordered } in
    let kept : IsKept new = subst (λ made. IfOk made IsKept) e (run_kept 0 os start (operands os h) begun) in
    record { writable = kept.writable; ordered = kept.ordered; shallow = new_shallow max_depth os start new (omega arith) h s.shallow e }

-- what passes through a room can be kept
passed_kept : (j : Json) → IsPassed j → IsKeepable j
passed_kept j h = record { writable = h.writable; ordered = h.ordered; shallow = omega (arith, h.shallow) }

pub first_kept : (fallback : Json) (found : Option Json) → IsPassed fallback → IfSome found IsKeepable → IsKeepable (value_or fallback found)
first_kept fallback (Some j) p h = h
first_kept fallback None p h = passed_kept fallback p

pub case_of : (kept : List Kept) (set : SetPacket) (old new : Json) → is_private set.key ≡ false → before kept set ≡ old → run_from 0 set.operations old ≡ Ok new
    → set_case kept set ≡ within_limits (put set.key new kept) record { old = old; new = new }
case_of kept set old new p b r =
    ap (λ t. if t then Err private_key else (run_from 0 set.operations (before kept set) then kept_after kept set)) p
    ∙ ap (λ j. run_from 0 set.operations j then (λ k. within_limits (put set.key k kept) record { old = j; new = k })) b
    ∙ ap (λ made. made then (λ k. within_limits (put set.key k kept) record { old = old; new = k })) r
