-- When an image is no journal, and where; when it is another seed's.
use Rattle.std.specs.Prelude.{◌≡◌, ◌≢◌, ◌⊎◌, ◌<◌, ◌≤◌, ◌^◌, ℕ, ◌+◌, ◌-◌, ◌==◌, nat_lt, nat_le, not, min, List, [], ◌∷◌, length, take, drop, replicate, slice_index, Option, Some, None, if◌then◌else◌}
use Rattle.std.specs.Int.{w32, from_be_bytes}
use Rattle.std.proofs.Common.{refl}
use Rattle.mw_journal.specs.Image.{magic, Begins}

-- what is wrong with the rest of an image from a gate on, the gate itself at a place: the place of
-- the gate that is missing or stands too far, of a length that is missing or 0, or of a body that
-- ends too soon; nothing (None) is wrong with a gate that isn't open, or with a whole batch
abbrev pub wrong_at : ℕ → List ℕ → Option ℕ
wrong_at place [] = Some place
wrong_at place (gate ∷ rest) =
    if nat_le (2 ^ 30) place then Some place
    else if not (gate == 1) then None
    else if nat_lt (length rest) 4 then Some (place + 1)
    else if from_be_bytes w32 (take 4 rest) == 0 then Some (place + 1)
    else if nat_lt (length rest - 4) (from_be_bytes w32 (take 4 rest)) then Some (place + 5)
    else None

-- an open gate at place 40 and a body of 16 bytes behind it, cut shorter and shorter
no_gate : wrong_at 40 [] ≡ Some 40
no_gate = refl

no_length : wrong_at 40 (1 ∷ []) ≡ Some 41
no_length = refl

short_length : wrong_at 40 (1 ∷ 0 ∷ 0 ∷ 0 ∷ []) ≡ Some 41
short_length = refl

no_body : wrong_at 40 (1 ∷ 0 ∷ 0 ∷ 0 ∷ 16 ∷ []) ≡ Some 45
no_body = refl

short_body : wrong_at 40 (1 ∷ 0 ∷ 0 ∷ 0 ∷ 16 ∷ replicate 15 9) ≡ Some 45
short_body = refl

no_next_gate : wrong_at 61 [] ≡ Some 61
no_next_gate = refl

zero_length : wrong_at 40 (1 ∷ 0 ∷ 0 ∷ 0 ∷ 0 ∷ []) ≡ Some 41
zero_length = refl

-- a gate behind an open batch stands too far
far_gate : wrong_at 1073741824 (0 ∷ []) ≡ Some 1073741824
far_gate = refl

-- nothing is wrong with a gate that holds 7, or with a whole batch
closed_gate : wrong_at 40 (7 ∷ 0 ∷ []) ≡ None
closed_gate = refl

whole_batch : wrong_at 40 (1 ∷ 0 ∷ 0 ∷ 0 ∷ 16 ∷ replicate 16 9) ≡ None
whole_batch = refl

-- a header byte is missing at a place, or is another one
pub record IsBadHeader (image : List ℕ) (at : ℕ) : Type 0 where
  pub within : at < 40
  pub before : take (min at 8) image ≡ take at magic
  pub bad : (length image ≡ at)
      ⊎ ((at < 8) × (at < length image) × (slice_index image at ≢ slice_index magic at))

-- an image is no journal, for what stands at a place
abbrev pub IsNotJournal : List ℕ → List ℕ → ℕ → Type 0
IsNotJournal image digest at = IsBadHeader image at
    ⊎ ((bodies : List (List ℕ)) × (place : ℕ) × (rest : List ℕ)
    × Begins image digest bodies place rest × (wrong_at place rest ≡ Some at))

-- an image has the header of another digest
pub record IsOtherSeed (image digest found : List ℕ) : Type 0 where
  pub whole : 40 ≤ length image
  pub first : take 8 image ≡ magic
  pub found_is : found ≡ take 32 (drop 8 image)
  pub other : found ≢ digest
