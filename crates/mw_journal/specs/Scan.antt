-- What the steps of reading a journal say of a disk that tells its bytes, and nothing of another.
use Rattle.std.specs.Prelude.{◌≡◌, ◌<◌, ℕ, ◌+◌, List, length, drop, Option, Some}
use Rattle.mw_journal.specs.declared.gate.Gate.{Gate}
use Rattle.mw_journal.specs.Opening.{Sees}
use Rattle.mw_journal.specs.Refused.{wrong_at, IsBadHeader, IsOtherSeed}

-- its header is bad at a place
abbrev pub BadHeaderOf : Option (List ℕ) → ℕ → Type 0
BadHeaderOf told at = (f : List ℕ) → told ≡ Some f → IsBadHeader f at

-- it is another seed's
abbrev pub OtherSeedOf : Option (List ℕ) → List ℕ → List ℕ → Type 0
OtherSeedOf told digest found = (f : List ℕ) → told ≡ Some f → IsOtherSeed f digest found

-- from a gate on it is wrong at a place
abbrev pub WrongAt : Option (List ℕ) → ℕ → ℕ → Type 0
WrongAt told place at = (f : List ℕ) → told ≡ Some f → wrong_at place (drop place f) ≡ Some at

-- a body of this length that begins at a place doesn't end
abbrev pub EndsBefore : Option (List ℕ) → ℕ → ℕ → ℕ → Type 0
EndsBefore told place size at =
    (at ≡ place) × ((f : List ℕ) → told ≡ Some f → length f < place + size)

-- a step that judges no digest
abbrev pub NoSeed : List ℕ → Type 0
NoSeed found = ⊥

-- it has this gate at a place
abbrev pub SeesOf : Option (List ℕ) → ℕ → Gate → Type 0
SeesOf told place gate = (f : List ℕ) → told ≡ Some f → Sees f place gate

-- a step that judges no place
abbrev pub NoPlace : ℕ → Type 0
NoPlace at = ⊥
