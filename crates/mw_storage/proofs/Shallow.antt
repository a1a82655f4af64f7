-- What operations make of values that nest no deeper than a bound nests no deeper.
use Rattle.std.proofs.Common.{◌≡◌, ◌≤◌, ◌^◌, ◌+◌, ◌*ℤ◌, ℕ, ℤ, pos, negsuc, zero, suc, max, Bool, true, false, List, [], ◌∷◌, Option, Some, None, Result, Ok, Err, bytes_eq, codes, nat_cmp, is_some, int_eq, subst, arith}
use Rattle.std.specs.Prelude.{if◌then◌else◌, IfOk, All}
use Rattle.std.specs.declared.cmp.Ordering.{Ordering}
use Rattle.std.specs.declared.cmp.Ordering.TheVariants.{Less, Equal, Greater}
use Rattle.std.specs.Cmp.Lexicographic.{slice_cmp}
use Rattle.std.proofs.lemmas.List.Elements.{All-head, All-tail}
use Rattle.mw_model.specs.Json.{Json, whole, words, many, members, Items, no_items, item, Members, no_members, member, depth, items_depth, members_depth}
use Rattle.mw_model.specs.Passed.{IsPassed}
use Rattle.mw_model.specs.Sets.{Operation}
use Rattle.mw_json.specs.Sets.{IsOperation}
use Rattle.mw_protocol.specs.Operations.{Fault, is_number, number_in, in_range, shifted_left, shifted_right, floor_quotient, modulo, remainder, of_bits, of_numbers, of_both, itself, append_items, place_from, without_at, without_place, without_index, lacking, without_member, set_member, set_members, joined, added, removed, popped_index, popped_name, popped, updated_list, updated_object, updated, operated}
use Rattle.mw_protocol.specs.Storage.{refused_at, run_from, ◌then◌}

-- ---- lists

append_depth : (m : ℕ) (js ks : Items) → items_depth js ≤ m → items_depth ks ≤ m → items_depth (append_items js ks) ≤ m
append_depth m no_items ks h k = k
append_depth m (item j js) ks h k = omega (arith, append_depth m js ks (omega arith) k)

without_at_depth : (i : ℕ) (js : Items) → items_depth (without_at i js) ≤ items_depth js
without_at_depth zero no_items = omega arith
without_at_depth (suc i) no_items = omega arith
without_at_depth zero (item j js) = omega arith
without_at_depth (suc i) (item j js) = omega (arith, without_at_depth i js)

without_place_depth : (place : Option ℕ) (js : Items) → items_depth (without_place place js) ≤ items_depth js
without_place_depth None js = omega arith
without_place_depth (Some i) js = without_at_depth i js

without_index_depth : (z : ℤ) (js : Items) → items_depth (without_index z js) ≤ items_depth js
without_index_depth (pos i) js = without_at_depth i js
without_index_depth (negsuc i) js = omega arith

lacking_depth : (js ks : Items) → items_depth (lacking js ks) ≤ items_depth ks
lacking_depth js no_items = omega arith
lacking_depth js (item k ks) = by (is_some (place_from 0 k js)) (lacking_depth js ks)
  where
    by : (b : Bool) → items_depth (lacking js ks) ≤ items_depth ks → items_depth (if b then lacking js ks else item k (lacking js ks)) ≤ max (depth k) (items_depth ks)
    by true r = omega (arith, r)
    by false r = omega (arith, r)

-- ---- objects

without_member_depth : (name : List ℕ) (ms : Members) → members_depth (without_member name ms) ≤ members_depth ms
without_member_depth name no_members = omega arith
without_member_depth name (member k j ms) = by (bytes_eq k name) (without_member_depth name ms)
  where
    by : (b : Bool) → members_depth (without_member name ms) ≤ members_depth ms → members_depth (if b then ms else member k j (without_member name ms)) ≤ max (depth j) (members_depth ms)
    by true r = omega arith
    by false r = omega (arith, r)

set_member_depth : (name : List ℕ) (value : Json) (ms : Members) → members_depth (set_member name value ms) ≤ max (depth value) (members_depth ms)
set_member_depth name value no_members = omega arith
set_member_depth name value (member k j ms) =
    let P : Ordering → Type 0 = λ o. members_depth (elim o [ Less ↦ member name value (member k j ms) | Equal ↦ member k value ms | Greater ↦ member k j (set_member name value ms) ])
    ≤ max (depth value) (max (depth j) (members_depth ms)) in
    elim (slice_cmp nat_cmp name k) as P [ Less ↦ omega arith | Equal ↦ omega arith | Greater ↦ omega (arith, set_member_depth name value ms) ]

set_members_depth : (m : ℕ) (ms ns : Members) → members_depth ms ≤ m → members_depth ns ≤ m → members_depth (set_members ms ns) ≤ m
set_members_depth m ms no_members h k = h
set_members_depth m ms (member name j ns) h k =
    set_members_depth m (set_member name j ms) ns (omega (arith, set_member_depth name j ms)) (omega arith)

-- ---- operations

module _ (n : ℕ) where
  abbrev IsShallow : Json → Type 0
  IsShallow j = depth j ≤ n

  abbrev Made : Result Json Fault → Type 0
  Made made = IfOk made IsShallow

  either : (b : Bool) (r s : Result Json Fault) → Made r → Made s → Made (if b then r else s)
  either true r s h k = h
  either false r s h k = k

  in_range_shallow : (z : ℤ) → Made (in_range z)
  in_range_shallow z = either (is_number z) (Ok (whole z)) (Err Fault.out_of_range) (omega arith) tt

  left_shallow : (z : ℤ) (by : Option ℕ) → Made (shifted_left z by)
  left_shallow z (Some by) = in_range_shallow (z *ℤ pos (2 ^ by))
  left_shallow z None = tt

  right_shallow : (z : ℤ) (by : Option ℕ) → Made (shifted_right z by)
  right_shallow z (Some by) = in_range_shallow (floor_quotient z (pos (2 ^ by)))
  right_shallow z None = tt

  bits_shallow : (name : List ℕ) (z i : ℤ) → Made (of_bits name z i)
  unfolding of_bits
  bits_shallow name z i = search (either, in_range_shallow, left_shallow, right_shallow) depth 12

  remainder_shallow : (z i : ℤ) → Made (remainder z i)
  remainder_shallow z i = either (int_eq i (pos 0)) (Err Fault.bad_operation) (in_range (modulo z i)) tt (in_range_shallow (modulo z i))

  numbers_shallow : (name : List ℕ) (z i : ℤ) → Made (of_numbers name z i)
  unfolding of_numbers
  numbers_shallow name z i = search (either, in_range_shallow, remainder_shallow, bits_shallow) depth 12

  both_shallow : (name : List ℕ) (z i : Option ℤ) → Made (of_both name z i)
  both_shallow name (Some z) (Some i) = numbers_shallow name z i
  both_shallow name (Some z) None = tt
  both_shallow name None i = tt

  itself_shallow : (j : Json) → IsShallow j → Made (itself j)
  itself_shallow j h = either (is_some (number_in j)) (Ok j) (Err Fault.bad_operation) h tt

  joined_shallow : (js : Items) (operand : Json) → IsShallow (many js) → IsShallow operand → Made (joined js operand)
  joined_shallow js (many ks) h k = omega (arith, append_depth (max (items_depth js) (items_depth ks)) js ks (omega arith) (omega arith))
  joined_shallow js _ h k = tt

  added_shallow : (j operand : Json) → IsShallow j → IsShallow operand → Made (added j operand)
  added_shallow (many js) operand h k = joined_shallow js operand h k
  added_shallow (whole z) operand h k = both_shallow (codes "add") (number_in (whole z)) (number_in operand)
  added_shallow _ operand h k = tt

  removed_shallow : (j operand : Json) → IsShallow j → Made (removed j operand)
  removed_shallow (many js) operand h = omega (arith, without_place_depth (place_from 0 operand js) js)
  removed_shallow _ operand h = tt

  popped_index_shallow : (js : Items) (z : Option ℤ) → IsShallow (many js) → Made (popped_index js z)
  popped_index_shallow js (Some z) h = omega (arith, without_index_depth z js)
  popped_index_shallow js None h = tt

  popped_name_shallow : (ms : Members) (operand : Json) → IsShallow (members ms) → Made (popped_name ms operand)
  popped_name_shallow ms (words name) h = omega (arith, without_member_depth name ms)
  popped_name_shallow ms _ h = tt

  popped_shallow : (j operand : Json) → IsShallow j → Made (popped j operand)
  popped_shallow (many js) operand h = popped_index_shallow js (number_in operand) h
  popped_shallow (members ms) operand h = popped_name_shallow ms operand h
  popped_shallow _ operand h = tt

  updated_list_shallow : (js : Items) (operand : Json) → IsShallow (many js) → IsShallow operand → Made (updated_list js operand)
  updated_list_shallow js (many ks) h k =
      let most : ℕ = max (items_depth js) (items_depth ks) in
      omega (arith, append_depth most js (lacking js ks) (omega arith) (omega (arith, lacking_depth js ks)))
  updated_list_shallow js _ h k = tt

  updated_object_shallow : (ms : Members) (operand : Json) → IsShallow (members ms) → IsShallow operand → Made (updated_object ms operand)
  updated_object_shallow ms (members ns) h k =
      let most : ℕ = max (members_depth ms) (members_depth ns) in
      omega (arith, set_members_depth most ms ns (omega arith) (omega arith))
  updated_object_shallow ms _ h k = tt

  updated_shallow : (j operand : Json) → IsShallow j → IsShallow operand → Made (updated j operand)
  updated_shallow (many js) operand h k = updated_list_shallow js operand h k
  updated_shallow (members ms) operand h k = updated_object_shallow ms operand h k
  updated_shallow _ operand h k = tt

  operated_shallow : (o : Operation) (j : Json) → IsShallow o.value → IsShallow j → Made (operated o j)
  unfolding operated
  operated_shallow o j v h =
      search (either, v, h, itself_shallow, added_shallow, removed_shallow, popped_shallow, updated_shallow, both_shallow) depth 12

  run_shallow : (i : ℕ) (os : List Operation) (j : Json) → 62 ≤ n → All IsOperation os → IsShallow j → IfOk (run_from i os j) IsShallow
  run_shallow i [] j m v h = h
  run_shallow i (o ∷ os) j m v h =
      let operand : IsPassed o.value = All-head IsOperation o os v in
      by (operated o j) (operated_shallow o j (omega (arith, operand.shallow)) h) (λ k. run_shallow (i + 1) os k m (All-tail IsOperation o os v))
    where
      by : (made : Result Json Fault) → Made made → ((k : Json) → IsShallow k → IfOk (run_from (i + 1) os k) IsShallow) → IfOk (refused_at i made then run_from (i + 1) os) IsShallow
      by (Ok k) kept rest = rest k kept
      by (Err fault) kept rest = tt

  pub new_shallow : (os : List Operation) (start new : Json) → 62 ≤ n → All IsOperation os → IsShallow start → run_from 0 os start ≡ Ok new → IsShallow new
  new_shallow os start new m v h e = subst (λ made. IfOk made IsShallow) e (run_shallow 0 os start m v h)
