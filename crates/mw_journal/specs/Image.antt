-- What an image of a journal's file stands for.
use Rattle.std.specs.Prelude.{◌≡◌, ◌≢◌, ◌<◌, ◌≤◌, ◌^◌, ℕ, ◌+◌, List, [], ◌∷◌, ◌++◌, length}
use Rattle.std.specs.Int.{w32, to_be_bytes}
use Rattle.std.specs.List.{concat}

-- the first eight bytes: `MWJRNL1` and a line feed
abbrev pub magic : List ℕ
magic = 0x4d ∷ 0x57 ∷ 0x4a ∷ 0x52 ∷ 0x4e ∷ 0x4c ∷ 0x31 ∷ 0x0a ∷ []

-- the first forty bytes
abbrev pub header : List ℕ → List ℕ
header digest = magic ++ digest

-- the length of a body, and the body
abbrev pub measured : List ℕ → List ℕ
measured body = to_be_bytes w32 (length body) ++ body

-- bodies, each behind an open gate
abbrev pub batches : List (List ℕ) → List ℕ
batches [] = []
batches (body ∷ bodies) = 1 ∷ measured body ++ batches bodies

-- no body is empty or too long for its length's four bytes, and each open gate stands below
-- 1,073,741,824, the first one at this place
abbrev pub AreLaid : ℕ → List (List ℕ) → Type 0
AreLaid place [] = Unit {0}
AreLaid place (body ∷ bodies) = (place < 2 ^ 30) × (1 ≤ length body) × (length body < 2 ^ 32)
    × AreLaid (place + 5 + length body) bodies

-- an image begins with the header and these bodies behind open gates, up to a place; what follows
-- there is the rest
pub record Begins (image digest : List ℕ) (bodies : List (List ℕ)) (place : ℕ) (rest : List ℕ)
    : Type 0 where
  pub layout : image ≡ header digest ++ batches bodies ++ rest
  pub place_is : place ≡ length (header digest ++ batches bodies)
  pub digest_size : length digest ≡ 32
  pub laid : AreLaid 40 bodies

-- an image stands for a text: its first gate that isn't open is at a place and holds a byte, and
-- the bodies before it, joined, are the text; any bytes may follow
pub record IsShut (image digest text : List ℕ) (place gate : ℕ) : Type 0 where
  pub bodies : List (List ℕ)
  pub rest : List ℕ
  pub begins : Begins image digest bodies place (gate ∷ rest)
  pub shut : gate ≢ 1
  pub within : place < 2 ^ 30
  pub joined : text ≡ concat bodies

-- the same, with whatever byte
abbrev pub StandsAt : List ℕ → List ℕ → List ℕ → ℕ → Type 0
StandsAt image digest text place = (gate : ℕ) × IsShut image digest text place gate

-- the same, with whatever place
abbrev pub Stands : List ℕ → List ℕ → List ℕ → Type 0
Stands image digest text = (place : ℕ) × StandsAt image digest text place
