-- How the run of a script on a disk ends.
use Rattle.std.specs.Prelude.{◌≡◌, ◌⊎◌, ℕ, ◌++◌, List, Option, Some}
use Rattle.std.specs.Io.KnownBytes.{Keeps}
use Rattle.mw_disk.specs.Crash.{Stays}
use Rattle.mw_model.specs.Seed.{Seed}
use Rattle.mw_protocol.specs.Lives.{Life, new_life}
use Rattle.mw_protocol.specs.Records.{Record}
use Rattle.mw_protocol.specs.Spelled.{records_bytes}
use Rattle.mw_journal.specs.Image.{Stands, StandsAt}
use Rattle.mw_journal.specs.Refused.{IsNotJournal, IsOtherSeed}
use Rattle.mw_journal.specs.Settled.{AllSettled, AllShut}
use Rattle.mw_keep.specs.Entered.{AreSound, IsBadRecord}
use Rattle.mw_keep.specs.Holds.{AreRecords}
use Rattle.mw_script.specs.Commands.{Command}
use Rattle.mw_drive.specs.Input.{HasScript, HasNoScript}
use Rattle.mw_drive.specs.Left.{FindsItself, HasDriven}
use Rattle.mw_drive.specs.Calls.{IsOutside}
use Rattle.mw_drive.specs.Runs.{HasHalted, IsOfRun}
use Rattle.mw_drive.specs.declared.error.DriveError.{DriveError}
use Rattle.mw_drive.specs.declared.error.DriveError.TheVariants.{Fault, Memory, Full, Journal, Script}
use Rattle.mw_drive.specs.declared.error.JournalRefusal.{JournalRefusal}
use Rattle.mw_drive.specs.declared.error.JournalRefusal.TheVariants.{NotJournal, OtherSeed, BadRecord}

-- ---- what the journal holds

-- these are the records for which the disk's bytes stand, with the first gate that isn't open at
-- this place; where all that a crash might leave was settled for some records and a batch, they are
-- these records, or these and the batch
pub record IsFound (told : Option (List ℕ)) (images : List ℕ → Type 0) (digest : List ℕ)
    (seed : Seed) (journal : List Record) (place : ℕ) : Type 0 where
  pub sound : AreSound seed journal
  pub stands : (f : List ℕ) → told ≡ Some f → StandsAt f digest (records_bytes journal) place
  pub one : (f : List ℕ) (kept batch : List Record) → told ≡ Some f → AreRecords kept
      → AreRecords batch
      → AllSettled images digest (records_bytes kept) (records_bytes batch)
      → (journal ≡ kept) ⊎ (journal ≡ kept ++ batch)

-- why the bytes of a disk are no journal of a seed
abbrev pub Refuses : Option (List ℕ) → List ℕ → Seed → JournalRefusal → Type 0
Refuses told digest seed (NotJournal at) = (f : List ℕ) → told ≡ Some f → IsNotJournal f digest at
Refuses told digest seed (OtherSeed found) =
    (f : List ℕ) → told ≡ Some f → IsOtherSeed f digest found
Refuses told digest seed (BadRecord at) =
    (f : List ℕ) → told ≡ Some f → (text : List ℕ) × Stands f digest text × IsBadRecord seed text at

-- ---- ends

-- the records that the journal was found to hold, and the commands of a script that was read
pub record IsReady (found : List Record → ℕ → Type 0) (seed : Seed) (before after : Option (List ℕ))
    (life : Life) (cs : List Command) : Type 0 where
  pub journal : List Record
  pub place : ℕ
  pub is_found : found journal place
  pub begins : life ≡ new_life seed journal place
  pub script : HasScript before after cs

-- the script was read to its end, and run to its end
pub record Drives (found : List Record → ℕ → Type 0) (told : Option (List ℕ))
    (left : List ℕ → Type 0) (digest : List ℕ) (seed : Seed)
    (before after old new : Option (List ℕ))
    : Type 0 where
  pub life : Life
  pub commands : List Command
  pub ready : IsReady found seed before after life commands
  pub driven : FindsItself told commands → HasDriven left digest life commands old new

-- the bytes are no journal of the seed's
abbrev pub IsForeign : DriveError → Type 0
IsForeign Fault = ⊥
IsForeign Memory = ⊥
IsForeign Full = ⊥
IsForeign (Journal (NotJournal at)) = Unit {0}
IsForeign (Journal (OtherSeed found)) = Unit {0}
IsForeign (Journal (BadRecord at)) = ⊥
IsForeign (Script line) = ⊥

-- no room was recovered: the input wasn't touched, nothing was put, and what a crash may leave is as
-- settled as it was; what is no journal of the seed's was only read
pub record IsUnopened {S : Type 0} (refuses : JournalRefusal → Type 0) (settled only_read : Type 0)
    (before after : S) (old new : Option (List ℕ)) (error : DriveError)
    : Type 0 where
  pub as_settled : settled
  pub read : IsForeign error → only_read
  pub untouched : after ≡ before
  pub quiet : Keeps old new
  pub cause : (error ≡ Fault) ⊎ (error ≡ Memory)
      ⊎ ((refusal : JournalRefusal) × (error ≡ Journal refusal) × refuses refusal)

-- a room was, but no script was read, or one that is refused; nothing was put, and a crash leaves
-- just the journal's records
pub record IsUnread (found : List Record → ℕ → Type 0) (left : List ℕ → Type 0) (digest : List ℕ)
    (before after old new : Option (List ℕ)) (error : DriveError)
    : Type 0 where
  pub journal : List Record
  pub place : ℕ
  pub is_found : found journal place
  pub quiet : Keeps old new
  pub stands : AllShut left digest (records_bytes journal) place
  pub cause : HasNoScript before after error

-- the script's commands stopped before their end: not for the script; and for the journal only at a
-- crash, where the disk doesn't tell its bytes
pub record IsStopped (found : List Record → ℕ → Type 0) (told : Option (List ℕ))
    (left : List ℕ → Type 0) (digest : List ℕ) (seed : Seed)
    (before after old new : Option (List ℕ)) (error : DriveError)
    : Type 0 where
  pub life : Life
  pub commands : List Command
  pub ready : IsReady found seed before after life commands
  pub ran : IsOfRun commands error
  pub outside : FindsItself told commands → IsOutside error
  pub halted : FindsItself told commands → HasHalted left digest seed life commands old new error

-- the source tells so what is left of it
abbrev pub StopsWith : {S : Type 0} → (S → Option (List ℕ)) → (List Record → ℕ → Type 0)
    → (JournalRefusal → Type 0) → Type 0 → Type 0 → Option (List ℕ)
    → (List ℕ → Type 0) → List ℕ → Seed → S → S → Option (List ℕ) → Option (List ℕ) → DriveError
    → Type 0
StopsWith source found refuses settled only_read told left digest seed before after old new error =
    IsUnopened refuses settled only_read before after old new error
    ⊎ IsUnread found left digest (source before) (source after) old new error
    ⊎ IsStopped found told left digest seed (source before) (source after) old new error

-- the error is about the journal's bytes
abbrev pub IsOfJournal : DriveError → Type 0
IsOfJournal Fault = ⊥
IsOfJournal Memory = ⊥
IsOfJournal Full = ⊥
IsOfJournal (Journal refusal) = Unit {0}
IsOfJournal (Script line) = ⊥

-- what is told is as before, and a crash leaves only what it might have left
abbrev pub IsAsRead : Option (List ℕ) → Option (List ℕ) → (List ℕ → Type 0) → (List ℕ → Type 0)
    → Type 0
IsAsRead before after images left = (after ≡ before) × Stays images left

-- what a crash may leave is settled as before
abbrev pub StaysSettled : (List ℕ → Type 0) → (List ℕ → Type 0) → List ℕ → Type 0
StaysSettled images left digest =
    (text body : List ℕ) → AllSettled images digest text body → AllSettled left digest text body
