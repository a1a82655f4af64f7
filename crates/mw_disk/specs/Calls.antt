-- What a record of calls says of a disk in memory.
use Rattle.std.specs.Prelude.{◌≡◌, ◌⊎◌, ℕ, ◌≤◌, List, [], ◌∷◌, ◌++◌, length, take, count_by, Bool, true, false, Result, Ok, Err, is_ok, IsErrOf, ◌==◌, if◌then◌else◌}
use Rattle.mw_disk.specs.declared.disk.DiskError.{DiskError}
use Rattle.mw_disk.specs.declared.disk.DiskError.TheVariants.{Failed, Memory as OutOfMemory}
use Rattle.mw_disk.specs.declared.calls.DiskCall.{DiskCall}
use Rattle.mw_disk.specs.declared.calls.DiskCall.TheVariants.{Read, Write, Cut, Sync}
use Rattle.mw_disk.specs.declared.calls.MadeCall.{MadeCall}
use Rattle.mw_disk.specs.Range.{written}
use Rattle.mw_disk.specs.Crash.{Torn, CutShort}

-- the bytes that a disk began with, all of them safe from a crash; its calls, the first one first;
-- the numbers of the calls that are to fail, with the answers
pub record DiskHistory : Type 0 where
  pub start : List ℕ
  pub calls : List MadeCall
  pub failing : List (ℕ × DiskError)

-- the bytes after a call that was answered Ok
abbrev pub done : DiskCall → List ℕ → List ℕ
done (Write at put) bytes = written at put bytes
done (Cut len) bytes = take len bytes
done (Read at len) bytes = bytes
done Sync bytes = bytes

-- the bytes after a call: one that failed changed nothing
abbrev pub bytes_after : MadeCall → List ℕ → List ℕ
bytes_after made bytes = if is_ok made.answer then done made.call bytes else bytes

-- the bytes after some calls
abbrev pub bytes_of : List ℕ → List MadeCall → List ℕ
bytes_of bytes [] = bytes
bytes_of bytes (made ∷ calls) = bytes_of (bytes_after made bytes) calls

-- What a crash may leave after a call: after a sync that was answered Ok just the bytes; after a
-- write or a cut, whatever it answered, what they may make of an image.
abbrev pub ImageAfter : DiskCall → Bool → List ℕ → (List ℕ → Type 0) → List ℕ → Type 0
ImageAfter (Write at put) ok bytes images c = (d : List ℕ) × images d × Torn at (length put) d c
ImageAfter (Cut len) ok bytes images c = (d : List ℕ) × images d × CutShort len d c
ImageAfter (Read at len) ok bytes images c = images c
ImageAfter Sync true bytes images c = c ≡ bytes
ImageAfter Sync false bytes images c = images c

-- the same after some calls
abbrev pub ImageOf : List ℕ → (List ℕ → Type 0) → List MadeCall → List ℕ → Type 0
ImageOf bytes images [] c = images c
ImageOf bytes images (made ∷ calls) c = ImageOf (bytes_after made bytes)
    (ImageAfter made.call (is_ok made.answer) bytes images) calls c

-- what a crash may leave after some calls on a disk that began with these bytes
abbrev pub IsImage : List ℕ → List MadeCall → List ℕ → Type 0
IsImage start calls c = ImageOf start (λ d. d ≡ start) calls c

-- what a crash may have left at some moment from one on; a moment is a number of calls
abbrev pub IsImageSince : List ℕ → List MadeCall → ℕ → List ℕ → Type 0
IsImageSince start calls t c =
    (k : ℕ) × (t ≤ k) × (k ≤ length calls) × IsImage start (take k calls) c

-- whether an answer is that the disk failed
abbrev pub is_failed : Result Unit DiskError → Bool
is_failed (Err Failed) = true
is_failed _ = false

-- whether a call was answered so
abbrev pub is_fault : MadeCall → Bool
is_fault made = is_failed made.answer

-- how many calls were
abbrev pub fault_count : List MadeCall → ℕ
fault_count calls = count_by is_fault calls

-- the answer that is planned for the call of a number: the first one listed, or Ok
abbrev pub planned_answer : List (ℕ × DiskError) → ℕ → Result Unit DiskError
planned_answer [] number = Ok tt
planned_answer (plan ∷ failing) number =
    if plan.0 == number then Err plan.1 else planned_answer failing number

-- a call answers as planned: the planned error, or else not that the disk failed
abbrev pub AnswersPlan : {T : Type 0} → Result Unit DiskError → Result T DiskError → Type 0
AnswersPlan (Err error) answer = IsErrOf answer error
AnswersPlan (Ok done) answer = IsErrOf answer Failed → ⊥

-- a call was noted as the last of a record, with its answer; or memory to note it was wanting, and
-- the record is as before
abbrev pub IsNoted : List MadeCall → List MadeCall → DiskCall → Result Unit DiskError → Type 0
IsNoted before after call answer =
    (after ≡ before ++ record { call = call; answer = answer } ∷ [])
    ⊎ ((after ≡ before) × IsErrOf answer OutOfMemory)

-- the answer of a read, but for how many bytes it gave
abbrev pub read_answer : Result ℕ DiskError → Result Unit DiskError
read_answer (Ok count) = Ok tt
read_answer (Err error) = Err error
