-- A record as bytes: the one spelling of each. Numbers stand with their highest byte first.
use Rattle.std.specs.Prelude.{◌≡◌, ◌<◌, ◌≤◌, ◌^◌, ◌+◌, ℕ, ℤ, pos, ◌≤ℤ◌, ◌<ℤ◌, ◌++◌, ◌∷◌, [], List, Bool, true, false, length, drop, IsTrue, IsUtf8}
use Rattle.std.specs.Int.{w16, w32, w64, to_be_bytes}
use Rattle.std.specs.Int.Signed.{mag}
use Rattle.std.specs.List.{flat_map, AllByRecursion}
use Rattle.mw_model.specs.Json.{Json, depth, IsWritable, IsOrdered}
use Rattle.mw_model.specs.Spelling.{spelling}
use Rattle.mw_model.specs.Statuses.{is_client_status, is_hint_status}
use Rattle.mw_protocol.specs.Records.{Record, checks, release, collect, status, hint, hint_status, store}

-- ---- fields

-- a team in one byte and a slot in two
abbrev pub place_bytes : ℕ → ℕ → List ℕ
place_bytes team slot = team ∷ to_be_bytes w16 slot

-- a location in eight bytes
abbrev pub location_bytes : ℤ → List ℕ
location_bytes location = to_be_bytes w64 (mag location)

-- how many locations, in four bytes, and then each
abbrev pub locations_bytes : List ℤ → List ℕ
locations_bytes locations = to_be_bytes w32 (length locations) ++ flat_map location_bytes locations

-- a location of a finder, in a team
abbrev pub target_bytes : ℕ → ℕ → ℤ → List ℕ
target_bytes team finder location = place_bytes team finder ++ location_bytes location

abbrev pub flag_byte : Bool → ℕ
flag_byte true = 1
flag_byte false = 0

-- a length in four bytes, and so many bytes
abbrev pub text_bytes : List ℕ → List ℕ
text_bytes text = to_be_bytes w32 (length text) ++ text

-- ---- records

-- a kind, and then its fields
abbrev pub record_bytes : Record → List ℕ
record_bytes (checks team slot locations) = 1 ∷ place_bytes team slot ++ locations_bytes locations
record_bytes (release team slot) = 2 ∷ place_bytes team slot
record_bytes (collect team slot) = 3 ∷ place_bytes team slot
record_bytes (status team slot s) = 4 ∷ place_bytes team slot ++ s ∷ []
record_bytes (hint h) =
    5 ∷ target_bytes h.team h.finder h.location ++ flag_byte h.bought ∷ to_be_bytes w16 h.buyer
    ++ h.status ∷ []
record_bytes (hint_status team finder location s) = 6 ∷ target_bytes team finder location ++ s ∷ []
record_bytes (store key value) = 7 ∷ text_bytes key ++ text_bytes (spelling value)

-- one after another
abbrev pub records_bytes : List Record → List ℕ
records_bytes rs = flat_map record_bytes rs

-- ---- what has a spelling

abbrev pub IsSlot : ℕ → Type 0
IsSlot slot = (1 ≤ slot) × (slot ≤ 1024)

abbrev pub IsPlace : ℕ → ℕ → Type 0
IsPlace team slot = (team < 8) × IsSlot slot

abbrev pub IsLocation : ℤ → Type 0
IsLocation location = (pos 1 ≤ℤ location) × (location <ℤ pos (2 ^ 53))

abbrev pub IsTarget : ℕ → ℕ → ℤ → Type 0
IsTarget team finder location = IsPlace team finder × IsLocation location

-- some locations
abbrev pub AreLocations : List ℤ → Type 0
AreLocations locations =
    (1 ≤ length locations) × (length locations < 2 ^ 32) × AllByRecursion IsLocation locations

-- its compact text is text, short enough for its length, and is read as this very value
pub record IsValue (value : Json) : Type 0 where
  pub writable : IsWritable value
  pub ordered : IsOrdered value
  pub shallow : depth value ≤ 64
  pub text : IsUtf8 (spelling value)
  pub short : length (spelling value) < 2 ^ 32

abbrev pub IsKey : List ℕ → Type 0
IsKey key = IsUtf8 key × (length key < 2 ^ 32)

-- each field in its range
abbrev pub IsRecord : Record → Type 0
IsRecord (checks team slot locations) = IsPlace team slot × AreLocations locations
IsRecord (release team slot) = IsPlace team slot
IsRecord (collect team slot) = IsPlace team slot
IsRecord (status team slot s) = IsPlace team slot × IsTrue (is_client_status s)
IsRecord (hint h) =
    IsTarget h.team h.finder h.location × IsSlot h.buyer × IsTrue (is_hint_status h.status)
IsRecord (hint_status team finder location s) =
    IsTarget team finder location × IsTrue (is_hint_status s)
IsRecord (store key value) = IsKey key × IsValue value

-- ---- where records stand

-- the spelling of a record begins at a place
pub record Begins (bytes : List ℕ) (at : ℕ) (r : Record) : Type 0 where
  pub is_record : IsRecord r
  pub rest : List ℕ
  pub here : drop at bytes ≡ record_bytes r ++ rest

-- the bytes from a place up to another spell a record
pub record Spells (bytes : List ℕ) (at next : ℕ) (r : Record) : Type 0 where
  pub is_record : IsRecord r
  pub here : drop at bytes ≡ record_bytes r ++ drop next bytes
  pub ends : next ≡ at + length (record_bytes r)
