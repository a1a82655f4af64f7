-- What `create` and `open` answer.
use Rattle.std.specs.Prelude.{◌≡◌, ◌≢◌, ◌<◌, ◌≤◌, ◌^◌, ℕ, ◌+◌, List, [], ◌∷◌, ◌++◌, drop, Option, Some, Result, Ok, Err, nat_le, ◌==◌, if◌then◌else◌}
use Rattle.std.specs.Int.{w32, to_be_bytes, from_be_bytes}
use Rattle.mw_disk.specs.declared.disk.DiskError.{DiskError}
use Rattle.mw_disk.specs.declared.disk.DiskError.TheVariants as disk_error
use Rattle.mw_journal.specs.declared.error.OpenError.{OpenError}
use Rattle.mw_journal.specs.declared.error.OpenError.TheVariants.{DiskFault, NotEmpty, NotJournal, OtherSeed, Memory}
use Rattle.mw_journal.specs.declared.gate.Gate.{Gate}
use Rattle.mw_journal.specs.declared.gate.Gate.TheVariants.{Shut, Open}
use Rattle.mw_journal.specs.Image.{Begins}
use Rattle.std.specs.List.{concat}
use Rattle.mw_journal.specs.Refused.{IsNotJournal, IsOtherSeed}

-- the error of opening for one of the disk
abbrev pub open_error_of : DiskError → OpenError
open_error_of disk_error.Failed = DiskFault
open_error_of disk_error.Memory = Memory

-- each error of `create`, on a disk that tells its bytes or nothing: a fault has risen its count;
-- not empty is what has a byte
abbrev pub RefusesCreate : Option (List ℕ) → ℕ → ℕ → OpenError → Type 0
RefusesCreate told before after DiskFault = before < after
RefusesCreate told before after NotEmpty = (f : List ℕ) → told ≡ Some f → f ≢ []
RefusesCreate told before after (NotJournal at) = ⊥
RefusesCreate told before after (OtherSeed found) = ⊥
RefusesCreate told before after Memory = Unit {0}

-- each error of `open`
abbrev pub RefusesOpen : Option (List ℕ) → List ℕ → ℕ → ℕ → OpenError → Type 0
RefusesOpen told digest before after DiskFault = before < after
RefusesOpen told digest before after NotEmpty = ⊥
RefusesOpen told digest before after (NotJournal at) =
    (f : List ℕ) → told ≡ Some f → IsNotJournal f digest at
RefusesOpen told digest before after (OtherSeed found) =
    (f : List ℕ) → told ≡ Some f → IsOtherSeed f digest found
RefusesOpen told digest before after Memory = Unit {0}

-- an error that isn't about the bytes: a fault, or want of memory
abbrev pub IsOutside : OpenError → Type 0
IsOutside DiskFault = Unit {0}
IsOutside NotEmpty = ⊥
IsOutside (NotJournal at) = ⊥
IsOutside (OtherSeed found) = ⊥
IsOutside Memory = Unit {0}

-- an error about the bytes
abbrev pub IsOfBytes : OpenError → Type 0
IsOfBytes DiskFault = ⊥
IsOfBytes NotEmpty = Unit {0}
IsOfBytes (NotJournal at) = Unit {0}
IsOfBytes (OtherSeed found) = Unit {0}
IsOfBytes Memory = ⊥

-- an error of a step of `open`: what it says where the bytes are no journal
abbrev pub RefusesStep : (ℕ → Type 0) → (List ℕ → Type 0) → ℕ → ℕ → OpenError → Type 0
RefusesStep NoJournal Other before after DiskFault = before < after
RefusesStep NoJournal Other before after NotEmpty = ⊥
RefusesStep NoJournal Other before after (NotJournal at) = NoJournal at
RefusesStep NoJournal Other before after (OtherSeed found) = Other found
RefusesStep NoJournal Other before after Memory = Unit {0}

-- what at most five bytes from a gate on say, or the place of what is wrong
abbrev pub batch_in : ℕ → List ℕ → Result Gate ℕ
batch_in place (a ∷ b ∷ c ∷ d ∷ rest) =
    if from_be_bytes w32 (a ∷ b ∷ c ∷ d ∷ []) == 0 then Err (place + 1)
    else Ok (Open (from_be_bytes w32 (a ∷ b ∷ c ∷ d ∷ [])))
batch_in place _ = Err (place + 1)

abbrev pub gate_in : ℕ → List ℕ → Result Gate ℕ
gate_in place [] = Err place
gate_in place (gate ∷ rest) =
    if nat_le (2 ^ 30) place then Err place
    else if gate == 1 then batch_in place rest
    else Ok (Shut gate)

-- what a gate at a place of a file is
abbrev pub Sees : List ℕ → ℕ → Gate → Type 0
Sees f place (Shut gate) = (drop place f ≡ gate ∷ drop (place + 1) f) × (gate ≢ 1)
Sees f place (Open size) = drop place f ≡ 1 ∷ to_be_bytes w32 size ++ drop (place + 5) f

-- a gate stands below the limit, and a body isn't empty
abbrev pub Fits : ℕ → Gate → Type 0
Fits place (Shut gate) = place < 2 ^ 30
Fits place (Open size) = (place < 2 ^ 30) × (1 ≤ size) × (size < 2 ^ 32)

-- a file begins with a header and open batches, whose bodies joined are a text, up to a place
abbrev pub Reaches : List ℕ → List ℕ → List ℕ → ℕ → Type 0
Reaches f digest text place = (bodies : List (List ℕ))
    × Begins f digest bodies place (drop place f) × (text ≡ concat bodies)
