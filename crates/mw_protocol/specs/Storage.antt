-- The data storage of a room: keys with their values, shared by all teams.
use Rattle.std.specs.Prelude.{ℕ, ◌+◌, ◌||◌, List, [], ◌∷◌, Bool, Option, Some, None, Result, Ok, Err, length, take, nat_lt, bytes_eq, codes, if◌then◌else◌}
use Rattle.mw_model.specs.Json.{Json}
use Rattle.mw_model.specs.Sets.{Operation, SetPacket}
use Rattle.mw_model.specs.Spelling.{spelling}
use Rattle.mw_protocol.specs.Operations.{Fault, bad_operation, out_of_range, operated}
use Rattle.mw_protocol.specs.Records.{Record, checks, release, collect, status, hint, hint_status, store}

-- a key and its value
pub record Kept : Type 0 where
  pub key : List ℕ
  pub value : Json

-- the value of a key
abbrev pub value_of : List ℕ → List Kept → Option Json
value_of key [] = None
value_of key (k ∷ ks) = if bytes_eq key k.key then Some k.value else value_of key ks

-- a key's value set where the key stands, or at the end
abbrev pub put : List ℕ → Json → List Kept → List Kept
put key value [] = record { key = key; value = value } ∷ []
put key value (k ∷ ks) =
    if bytes_eq key k.key then record { key = k.key; value = value } ∷ ks else k ∷ put key value ks

-- the bytes of the keys and of the values' compact texts
abbrev pub bytes_kept : List Kept → ℕ
bytes_kept [] = 0
bytes_kept (k ∷ ks) = length k.key + length (spelling k.value) + bytes_kept ks

-- ---- what the records come to

abbrev pub stored : List Kept → Record → List Kept
stored kept (checks team slot locations) = kept
stored kept (release team slot) = kept
stored kept (collect team slot) = kept
stored kept (status team slot number) = kept
stored kept (hint h) = kept
stored kept (hint_status team finder location number) = kept
stored kept (store key value) = put key value kept

abbrev pub stored_all : List Kept → List Record → List Kept
stored_all kept [] = kept
stored_all kept (r ∷ rs) = stored_all (stored kept r) rs

-- Storage: what a journal keeps
abbrev pub storage : List Record → List Kept
storage journal = stored_all [] journal

-- ---- a change

-- why a change is refused: its key is a private one; an operation, by its place from 0; or so many bytes or keys would stand
pub data Refused : Type 0 where
  private_key : Refused
  bad_operation_at : ℕ → Refused
  out_of_range_at : ℕ → Refused
  store_full : ℕ → ℕ → Refused

-- the value before a change, and after it
pub record Changed : Type 0 where
  pub old : Json
  pub new : Json

-- it begins with the word for what is read alone
abbrev pub is_private : List ℕ → Bool
is_private key = bytes_eq (codes "_read_") (take 6 key)

-- more than 65,536 keys, or more than 4,194,304 bytes
abbrev pub is_too_much : List Kept → Bool
is_too_much kept = nat_lt 4194304 (bytes_kept kept) || nat_lt 65536 (length kept)

abbrev pub at_place : ℕ → Fault → Refused
at_place i bad_operation = bad_operation_at i
at_place i out_of_range = out_of_range_at i

infixl 10 ◌then◌
abbrev pub ◌then◌ : {A B : Type 0} → Result A Refused → (A → Result B Refused) → Result B Refused
(Ok x) then f = f x
(Err e) then f = Err e

abbrev pub refused_at : ℕ → Result Json Fault → Result Json Refused
refused_at i (Ok j) = Ok j
refused_at i (Err fault) = Err (at_place i fault)

-- the operations in order, the first of which has this place, up to the first that fails
abbrev pub run_from : ℕ → List Operation → Json → Result Json Refused
run_from i [] j = Ok j
run_from i (o ∷ os) j = refused_at i (operated o j) then run_from (i + 1) os

-- the value that a change begins with: the kept one, or else its own
abbrev pub value_or : Json → Option Json → Json
value_or fallback (Some j) = j
value_or fallback None = fallback

abbrev pub before : List Kept → SetPacket → Json
before kept set = value_or set.fallback (value_of set.key kept)

-- what would stand has to be within the limits
abbrev pub within_limits : List Kept → Changed → Result Changed Refused
within_limits standing changed =
    if is_too_much standing then Err (store_full (bytes_kept standing) (length standing))
    else Ok changed

abbrev pub kept_after : List Kept → SetPacket → Json → Result Changed Refused
kept_after kept set new =
    within_limits (put set.key new kept) record { old = before kept set; new = new }

-- SetCase: the old and the new value, or the first refusal
abbrev pub set_case : List Kept → SetPacket → Result Changed Refused
set_case kept set =
    if is_private set.key then Err private_key
    else (run_from 0 set.operations (before kept set) then kept_after kept set)
