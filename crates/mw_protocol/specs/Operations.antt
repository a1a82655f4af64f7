-- What an operation of the data storage makes of a value.
use Rattle.std.specs.Prelude.{ℕ, zero, suc, ℤ, pos, negsuc, ◌+◌, ◌/◌, ◌^◌, ◌+ℤ◌, ◌-ℤ◌, ◌*ℤ◌, List, Bool, Option, Some, None, Result, Ok, Err, nat_lt, is_some, bytes_eq, codes, if◌then◌else◌}
use Rattle.std.specs.Int.{w64, int_max, int_min, int_bit_and, int_bit_or, int_bit_xor}
use Rattle.std.specs.Ordering.{int_eq}
use Rattle.mw_model.specs.Json.{Json, null, flag, whole, not_whole, numeral, words, many, members, Items, no_items, item, Members, no_members, member}
use Rattle.mw_model.specs.Sets.{Operation}
pub use Rattle.mw_model.specs.Trees.{set_member}
use Rattle.mw_protocol.specs.Equal.{json_eq}

-- why an operation fails: its name, its operand or the value is another than stated; or a number is outside its range
pub data Fault : Type 0 where
  bad_operation : Fault
  out_of_range : Fault

-- ---- numbers

-- from -2^63 to 2^63 - 1
abbrev pub is_number : ℤ → Bool
is_number (pos n) = nat_lt n (2 ^ 63)
is_number (negsuc n) = nat_lt n (2 ^ 63)

-- the number that a value is
abbrev pub number_in : Json → Option ℤ
number_in null = None
number_in (flag b) = None
number_in (whole z) = if is_number z then Some z else None
number_in not_whole = None
number_in (numeral s) = None
number_in (words s) = None
number_in (many js) = None
number_in (members ms) = None

-- a result has to be a number again
abbrev pub in_range : ℤ → Result Json Fault
in_range z = if is_number z then Ok (whole z) else Err out_of_range

-- the greatest whole number that is no greater than z divided by a divisor that isn't 0
abbrev pub floor_quotient : ℤ → ℤ → ℤ
floor_quotient (pos a) (pos b) = pos (a / b)
floor_quotient (negsuc a) (pos b) = negsuc (a / b)
floor_quotient (pos zero) (negsuc b) = pos 0
floor_quotient (pos (suc a)) (negsuc b) = negsuc (a / suc b)
floor_quotient (negsuc a) (negsuc b) = pos (suc a / suc b)

-- z less the divisor times that quotient
abbrev pub modulo : ℤ → ℤ → ℤ
modulo z divisor = z -ℤ divisor *ℤ floor_quotient z divisor

abbrev pub remainder : ℤ → ℤ → Result Json Fault
remainder z divisor =
    if int_eq divisor (pos 0) then Err bad_operation else in_range (modulo z divisor)

-- by how many bits a number shifts: 0 to 63
abbrev pub shift_by : ℤ → Option ℕ
shift_by (pos n) = if nat_lt n 64 then Some n else None
shift_by (negsuc n) = None

-- times 2^n
abbrev pub shifted_left : ℤ → Option ℕ → Result Json Fault
shifted_left z (Some n) = in_range (z *ℤ pos (2 ^ n))
shifted_left z None = Err bad_operation

-- the floor of z divided by 2^n
abbrev pub shifted_right : ℤ → Option ℕ → Result Json Fault
shifted_right z (Some n) = in_range (floor_quotient z (pos (2 ^ n)))
shifted_right z None = Err bad_operation

-- two numbers as 64 bits in two's complement
unfoldable pub of_bits : List ℕ → ℤ → ℤ → Result Json Fault
of_bits name z n =
    if bytes_eq name (codes "and") then in_range (int_bit_and w64 z n)
    else (if bytes_eq name (codes "or") then in_range (int_bit_or w64 z n)
    else (if bytes_eq name (codes "xor") then in_range (int_bit_xor w64 z n)
    else (if bytes_eq name (codes "left_shift") then shifted_left z (shift_by n)
    else (if bytes_eq name (codes "right_shift") then shifted_right z (shift_by n)
    else Err bad_operation))))

-- the number z and the operand n
unfoldable pub of_numbers : List ℕ → ℤ → ℤ → Result Json Fault
of_numbers name z n =
    if bytes_eq name (codes "add") then in_range (z +ℤ n)
    else (if bytes_eq name (codes "mul") then in_range (z *ℤ n)
    else (if bytes_eq name (codes "max") then in_range (int_max z n)
    else (if bytes_eq name (codes "min") then in_range (int_min z n)
    else (if bytes_eq name (codes "mod") then remainder z n
    else of_bits name z n))))

abbrev pub of_both : List ℕ → Option ℤ → Option ℤ → Result Json Fault
of_both name (Some z) (Some n) = of_numbers name z n
of_both name (Some z) None = Err bad_operation
of_both name None n = Err bad_operation

-- an operation that only numbers have
abbrev pub by_number : List ℕ → Json → Json → Result Json Fault
by_number name j operand = of_both name (number_in j) (number_in operand)

-- a number is whole, so its floor and its ceiling are itself
abbrev pub itself : Json → Result Json Fault
itself j = if is_some (number_in j) then Ok j else Err bad_operation

-- ---- lists

abbrev pub append_items : Items → Items → Items
append_items no_items ks = ks
append_items (item j js) ks = item j (append_items js ks)

-- the place of the first element that is this value, where the first element has this place
abbrev pub place_from : ℕ → Json → Items → Option ℕ
place_from i wanted no_items = None
place_from i wanted (item j js) = if json_eq j wanted then Some i else place_from (i + 1) wanted js

-- without the element at a place, where there is one
abbrev pub without_at : ℕ → Items → Items
without_at i no_items = no_items
without_at zero (item j js) = js
without_at (suc i) (item j js) = item j (without_at i js)

abbrev pub without_place : Option ℕ → Items → Items
without_place None js = js
without_place (Some i) js = without_at i js

-- without the first element that is this value
abbrev pub without_first : Json → Items → Items
without_first wanted js = without_place (place_from 0 wanted js) js

-- those of the second list that are no element of the first
abbrev pub lacking : Items → Items → Items
lacking js no_items = no_items
lacking js (item k ks) =
    if is_some (place_from 0 k js) then lacking js ks else item k (lacking js ks)

-- an index of a list, where there is no element at a negative one
abbrev pub without_index : ℤ → Items → Items
without_index (pos i) js = without_at i js
without_index (negsuc i) js = js

-- ---- objects

-- without the first member of this name
abbrev pub without_member : List ℕ → Members → Members
without_member name no_members = no_members
without_member name (member k j ms) =
    if bytes_eq k name then ms else member k j (without_member name ms)

-- each of these members set in turn
abbrev pub set_members : Members → Members → Members
set_members ms no_members = ms
set_members ms (member k j ns) = set_members (set_member k j ms) ns

-- ---- operations of several kinds of values

abbrev pub joined : Items → Json → Result Json Fault
joined js (many ks) = Ok (many (append_items js ks))
joined js _ = Err bad_operation

-- the sum of two numbers, or two lists joined
abbrev pub added : Json → Json → Result Json Fault
added (many js) operand = joined js operand
added j operand = by_number (codes "add") j operand

-- a list without the first element that is the operand
abbrev pub removed : Json → Json → Result Json Fault
removed (many js) operand = Ok (many (without_first operand js))
removed _ operand = Err bad_operation

abbrev pub popped_index : Items → Option ℤ → Result Json Fault
popped_index js (Some i) = Ok (many (without_index i js))
popped_index js None = Err bad_operation

abbrev pub popped_name : Members → Json → Result Json Fault
popped_name ms (words name) = Ok (members (without_member name ms))
popped_name ms _ = Err bad_operation

-- a list without the element at the operand, or an object without the member that it names
abbrev pub popped : Json → Json → Result Json Fault
popped (many js) operand = popped_index js (number_in operand)
popped (members ms) operand = popped_name ms operand
popped _ operand = Err bad_operation

abbrev pub updated_list : Items → Json → Result Json Fault
updated_list js (many ks) = Ok (many (append_items js (lacking js ks)))
updated_list js _ = Err bad_operation

abbrev pub updated_object : Members → Json → Result Json Fault
updated_object ms (members ns) = Ok (members (set_members ms ns))
updated_object ms _ = Err bad_operation

-- a list with the operand's elements that it lacks behind it, or an object with the operand's members set
abbrev pub updated : Json → Json → Result Json Fault
updated (many js) operand = updated_list js operand
updated (members ms) operand = updated_object ms operand
updated _ operand = Err bad_operation

-- what an operation makes of a value
unfoldable pub operated : Operation → Json → Result Json Fault
operated o j =
    if bytes_eq o.name (codes "replace") then Ok o.value
    else (if bytes_eq o.name (codes "default") then Ok j
    else (if bytes_eq o.name (codes "floor") then itself j
    else (if bytes_eq o.name (codes "ceil") then itself j
    else (if bytes_eq o.name (codes "add") then added j o.value
    else (if bytes_eq o.name (codes "remove") then removed j o.value
    else (if bytes_eq o.name (codes "pop") then popped j o.value
    else (if bytes_eq o.name (codes "update") then updated j o.value
    else by_number o.name j o.value)))))))
