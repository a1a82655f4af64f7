-- Rows of the data storage beside its definitions.
use Rattle.std.specs.Prelude.{ℕ, pos, negsuc, ◌≡◌, ◌∷◌, [], List, Result, Ok, Err, true, refl, codes}
use Rattle.mw_model.specs.Json.{Json, whole, many, no_items, item, no_members}
use Rattle.mw_model.specs.Sets.{Operation, SetPacket}
use Rattle.mw_protocol.specs.Storage.{Refused, private_key, bad_operation_at, out_of_range_at, before, run_from, set_case, storage}
use Rattle.mw_protocol.specs.Operations.{operated, of_numbers, of_bits}
use Rattle.mw_protocol.specs.Records.{store, release}

abbrev pub operation : List ℕ → Json → Operation
operation name value = record { name = name; value = value }

abbrev pub change_of : List ℕ → Json → List Operation → SetPacket
change_of key fallback operations =
    record {
      key = key;
      fallback = fallback;
      want_reply = true;
      operations = operations;
      further = no_members;
    }

abbrev pub one : ℕ → Json
one n = many (item (whole (pos n)) no_items)

abbrev pub two : ℕ → ℕ → Json
two n m = many (item (whole (pos n)) (item (whole (pos m)) no_items))

abbrev pub three : ℕ → ℕ → ℕ → Json
three n m k = many (item (whole (pos n)) (item (whole (pos m)) (item (whole (pos k)) no_items)))

-- what a change makes of the value that it begins with where its key isn't kept
abbrev pub from_default : SetPacket → Result Json Refused
from_default set = run_from 0 set.operations (before [] set)

-- the first 3 goes, then the element at index 0, and 5 comes
pub list_operations : from_default (change_of (codes "q") (three 3 4 3)
    (operation (codes "remove") (whole (pos 3)) ∷ operation (codes "pop") (whole (pos 0))
    ∷ operation (codes "add") (one 5) ∷ []))
    ≡ Ok (two 3 5)
unfolding operated
list_operations = refl

-- -7 modulo 3 is 2, which is 8 two bits to the left and 4 one bit to the right
pub floor_and_shifts : from_default (change_of (codes "k") (whole (negsuc 6))
    (operation (codes "mod") (whole (pos 3)) ∷ operation (codes "left_shift") (whole (pos 2))
    ∷ operation (codes "right_shift") (whole (pos 1)) ∷ []))
    ≡ Ok (whole (pos 4))
unfolding operated of_numbers of_bits
floor_and_shifts = refl

pub no_modulo_of_zero : set_case []
    (change_of (codes "k") (whole (pos 1)) (operation (codes "mod") (whole (pos 0)) ∷ []))
    ≡ Err (bad_operation_at 0)
unfolding operated of_numbers of_bits
no_modulo_of_zero = refl

pub private_keys : set_case [] (change_of (codes "_read_x") (whole (pos 0)) []) ≡ Err private_key
private_keys = refl

-- elements that the list has already aren't appended
pub update_of_a_list : from_default
    (change_of (codes "k") (two 3 4) (operation (codes "update") (two 4 5) ∷ [])) ≡ Ok (three 3 4 5)
unfolding operated
update_of_a_list = refl

pub storage_out_of_range : set_case []
    (change_of (codes "k") (whole (pos 9223372036854775807))
    (operation (codes "add") (whole (pos 1)) ∷ [])) ≡ Err (out_of_range_at 0)
unfolding operated of_numbers of_bits
storage_out_of_range = refl

-- a refusal names the first operation that fails
pub first_that_fails : set_case [] (change_of (codes "k") (whole (pos 1))
    (operation (codes "add") (whole (pos 1)) ∷ operation (codes "fly") (whole (pos 1))
    ∷ operation (codes "mod") (whole (pos 0)) ∷ []))
    ≡ Err (bad_operation_at 1)
unfolding operated of_numbers of_bits
first_that_fails = refl

-- the least number modulo -1 is 0, and in two's complement -1 has every bit
pub at_the_edges : from_default (change_of (codes "k") (whole (negsuc 9223372036854775807))
    (operation (codes "mod") (whole (negsuc 0)) ∷ operation (codes "or") (whole (negsuc 0))
    ∷ operation (codes "and") (whole (pos 12)) ∷ operation (codes "xor") (whole (negsuc 0)) ∷ []))
    ≡ Ok (whole (negsuc 12))
unfolding operated of_numbers of_bits
at_the_edges = refl

-- a key keeps its place
pub put_where_it_stands : storage
    (store (codes "a") (whole (pos 1)) ∷ store (codes "b") (whole (pos 2)) ∷ release 0 1
    ∷ store (codes "a") (whole (pos 3)) ∷ [])
    ≡ record { key = codes "a"; value = whole (pos 3) }
    ∷ record { key = codes "b"; value = whole (pos 2) } ∷ []
put_where_it_stands = refl
