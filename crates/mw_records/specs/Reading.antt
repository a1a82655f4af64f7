-- Records read from left to right: a field is a value and the bytes after it, or no field of its kind begins there.
use Rattle.std.specs.Prelude.{◌≡◌, ◌≤◌, ◌^◌, ℕ, ℤ, pos, negsuc, zero, suc, ◌==◌, ◌&&◌, ◌∷◌, [], List, Bool, true, false, Option, Some, None, Result, Ok, Err, length, take, drop, nat_lt, nat_le, bytes_eq, if◌then◌else◌}
use Rattle.std.specs.Int.{Width, w16, w32, w64, byte_len, from_be_bytes}
use Rattle.std.specs.Str.{is_utf8}
use Rattle.mw_model.specs.Json.{Json, null, flag, whole, not_whole, numeral, words, many, members, Items, no_items, item, Members, no_members, member, depth}
use Rattle.mw_model.specs.Spelling.{spelling}
use Rattle.mw_model.specs.Statuses.{is_client_status, is_hint_status}
use Rattle.mw_protocol.specs.Records.{Record, checks, release, collect, status, hint, hint_status, store}
use Rattle.mw_json.specs.KeptReading.{kept_reading, IsKeptReading}
use Rattle.mw_json.specs.Reading.{max_depth}
use Rattle.mw_json.specs.Valid.{IsValid}
use Rattle.mw_numerals.specs.Numerals.{is_kept}
use Rattle.mw_records.specs.declared.stop.Stop.{Stop}
use Rattle.mw_records.specs.declared.stop.Stop.TheVariants.{Bad, Memory}

infixl 10 ◌>>=◌
abbrev pub ◌>>=◌ : {A B : Type 0} → Option A → (A → Option B) → Option B
(Some x) >>= f = f x
None >>= f = None

-- what a function returned, seen by view, is what reading gives, unless memory ran out
abbrev pub Stops : {Y : Type 0} → Stop → Option Y → Type 0
Stops Memory read = Unit {0}
Stops Bad read = read ≡ None

abbrev pub Gives : {X Y : Type 0} → (X → Y) → Result X Stop → Option Y → Type 0
Gives view (Ok x) read = read ≡ Some (view x)
Gives view (Err e) read = Stops e read

-- ---- numbers

abbrev pub byte_at : List ℕ → Option (ℕ × List ℕ)
byte_at [] = None
byte_at (b ∷ rest) = Some (b, rest)

abbrev pub number_at : Width → List ℕ → Option (ℕ × List ℕ)
number_at w bytes =
    if nat_lt (length bytes) (byte_len w) then None
    else Some (from_be_bytes w (take (byte_len w) bytes), drop (byte_len w) bytes)

-- a field that passes a test
abbrev pub passing : {A : Type 0} → (A → Bool) → Option (A × List ℕ) → Option (A × List ℕ)
passing test None = None
passing test (Some x) = if test x.0 then Some x else None

abbrev pub is_team : ℕ → Bool
is_team n = nat_lt n 8

abbrev pub is_slot : ℕ → Bool
is_slot n = nat_le 1 n && nat_le n 1024

abbrev pub is_location : ℕ → Bool
is_location n = nat_le 1 n && nat_lt n (2 ^ 53)

unfoldable pub team_at : List ℕ → Option (ℕ × List ℕ)
team_at bytes = passing is_team (byte_at bytes)

unfoldable pub slot_at : List ℕ → Option (ℕ × List ℕ)
slot_at bytes = passing is_slot (number_at w16 bytes)

unfoldable pub client_status_at : List ℕ → Option (ℕ × List ℕ)
client_status_at bytes = passing is_client_status (byte_at bytes)

unfoldable pub hint_status_at : List ℕ → Option (ℕ × List ℕ)
hint_status_at bytes = passing is_hint_status (byte_at bytes)

abbrev pub located : ℕ × List ℕ → Option (ℤ × List ℕ)
located x = Some (pos x.0, x.1)

unfoldable pub location_at : List ℕ → Option (ℤ × List ℕ)
location_at bytes = passing is_location (number_at w64 bytes) >>= located

-- 0 or 1
abbrev pub is_flag : ℕ → Bool
is_flag n = nat_lt n 2

abbrev pub flagged : ℕ × List ℕ → Option (Bool × List ℕ)
flagged x = Some (x.0 == 1, x.1)

unfoldable pub flag_at : List ℕ → Option (Bool × List ℕ)
flag_at bytes = passing is_flag (byte_at bytes) >>= flagged

-- ---- fields together

unfoldable pub place_at : List ℕ → Option ((ℕ × ℕ) × List ℕ)
place_at bytes = do
  team ← team_at bytes
  slot ← slot_at team.1
  Some ((team.0, slot.0), slot.1)

unfoldable pub target_at : List ℕ → Option (((ℕ × ℕ) × ℤ) × List ℕ)
target_at bytes = do
  place ← place_at bytes
  location ← location_at place.1
  Some ((place.0, location.0), location.1)

-- whether it was paid for, and by whom
unfoldable pub offer_at : List ℕ → Option ((Bool × ℕ) × List ℕ)
offer_at bytes = do
  bought ← flag_at bytes
  buyer ← slot_at bought.1
  Some ((bought.0, buyer.0), buyer.1)

unfoldable pub terms_at : List ℕ → Option (((Bool × ℕ) × ℕ) × List ℕ)
terms_at bytes = do
  offer ← offer_at bytes
  s ← hint_status_at offer.1
  Some ((offer.0, s.0), s.1)

-- so many locations
unfoldable pub each_location : ℕ → List ℕ → Option (List ℤ × List ℕ)
each_location zero bytes = Some ([], bytes)
each_location (suc n) bytes = do
  first ← location_at bytes
  others ← each_location n first.1
  Some (first.0 ∷ others.0, others.1)

abbrev pub is_count : ℕ → Bool
is_count n = nat_le 1 n

unfoldable pub locations_at : List ℕ → Option (List ℤ × List ℕ)
locations_at bytes = do
  count ← passing is_count (number_at w32 bytes)
  each_location count.0 count.1

-- ---- texts

abbrev pub split_at : ℕ → List ℕ → Option (List ℕ × List ℕ)
split_at n bytes = if nat_lt (length bytes) n then None else Some (take n bytes, drop n bytes)

unfoldable pub text_at : List ℕ → Option (List ℕ × List ℕ)
text_at bytes = do
  n ← number_at w32 bytes
  split_at n.0 n.1

unfoldable pub key_at : List ℕ → Option (List ℕ × List ℕ)
key_at bytes = passing is_utf8 (text_at bytes)

-- `IsWritable` as a test
abbrev pub is_in_range : ℤ → Bool
is_in_range (pos n) = nat_lt n (2 ^ 64)
is_in_range (negsuc n) = nat_lt n (2 ^ 63)

abbrev mutual
  pub is_writable : Json → Bool
  is_writable null = true
  is_writable (flag b) = true
  is_writable (whole z) = is_in_range z
  is_writable not_whole = false
  is_writable (numeral s) = is_kept s
  is_writable (words s) = true
  is_writable (many js) = items_are_writable js
  is_writable (members ms) = members_are_writable ms

  pub items_are_writable : Items → Bool
  items_are_writable no_items = true
  items_are_writable (item j js) = is_writable j && items_are_writable js

  pub members_are_writable : Members → Bool
  members_are_writable no_members = true
  members_are_writable (member k j ms) = is_writable j && members_are_writable ms

-- it is the compact text of this value
unfoldable pub is_compact : List ℕ → Json → Bool
is_compact text j = is_writable j && bytes_eq (spelling j) text

-- the value of a text that is the compact text of its own kept reading
abbrev pub compact_value : List ℕ → Option Json → Option Json
compact_value text None = None
compact_value text (Some j) =
    if nat_le (depth j) max_depth && is_compact text j then Some j else None

-- it is a text's kept reading, and no deeper than readings are
pub record IsRead (text : List ℕ) (j : Json) : Type 0 where
  pub stands : IsKeptReading text j
  pub valid : IsValid j
  pub shallow : depth j ≤ max_depth

unfoldable pub value_of : List ℕ → Option Json
value_of text = if is_utf8 text then compact_value text (kept_reading text) else None

unfoldable pub value_at : List ℕ → Option (Json × List ℕ)
value_at bytes = do
  text ← text_at bytes
  value ← value_of text.0
  Some (value, text.1)

-- ---- records

unfoldable pub checks_at : List ℕ → Option (Record × List ℕ)
checks_at bytes = do
  place ← place_at bytes
  locations ← locations_at place.1
  Some (checks place.0.0 place.0.1 locations.0, locations.1)

unfoldable pub release_at : List ℕ → Option (Record × List ℕ)
release_at bytes = do
  place ← place_at bytes
  Some (release place.0.0 place.0.1, place.1)

unfoldable pub collect_at : List ℕ → Option (Record × List ℕ)
collect_at bytes = do
  place ← place_at bytes
  Some (collect place.0.0 place.0.1, place.1)

unfoldable pub status_at : List ℕ → Option (Record × List ℕ)
status_at bytes = do
  place ← place_at bytes
  s ← client_status_at place.1
  Some (status place.0.0 place.0.1 s.0, s.1)

-- a hint that is made
abbrev pub made : (ℕ × ℕ) × ℤ → (Bool × ℕ) × ℕ → Record
made target terms =
    hint record {
      team = target.0.0;
      finder = target.0.1;
      location = target.1;
      bought = terms.0.0;
      buyer = terms.0.1;
      status = terms.1;
    }

unfoldable pub made_at : List ℕ → Option (Record × List ℕ)
made_at bytes = do
  target ← target_at bytes
  terms ← terms_at target.1
  Some (made target.0 terms.0, terms.1)

unfoldable pub marked_at : List ℕ → Option (Record × List ℕ)
marked_at bytes = do
  target ← target_at bytes
  s ← hint_status_at target.1
  Some (hint_status target.0.0.0 target.0.0.1 target.0.1 s.0, s.1)

unfoldable pub store_at : List ℕ → Option (Record × List ℕ)
store_at bytes = do
  key ← key_at bytes
  value ← value_at key.1
  Some (store key.0 value.0, value.1)

-- hints and values, by their kinds
abbrev pub hint_named : ℕ → List ℕ → Option (Record × List ℕ)
hint_named kind bytes =
    if kind == 5 then made_at bytes
    else (if kind == 6 then marked_at bytes else (if kind == 7 then store_at bytes else None))

abbrev pub kind_named : ℕ → List ℕ → Option (Record × List ℕ)
kind_named kind bytes =
    if kind == 1 then checks_at bytes
    else (if kind == 2 then release_at bytes
    else (if kind == 3 then collect_at bytes
    else (if kind == 4 then status_at bytes else hint_named kind bytes)))

unfoldable pub record_at : List ℕ → Option (Record × List ℕ)
record_at bytes = do
  kind ← byte_at bytes
  kind_named kind.0 kind.1
