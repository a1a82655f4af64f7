-- What a room that is recovered from a disk stands for, and why none is.
use Rattle.std.specs.Prelude.{◌≡◌, ◌⊎◌, ◌<◌, ℕ, List, ◌++◌, Option, Some, Result, Ok, Err}
use Rattle.mw_model.specs.Seed.{Seed}
use Rattle.mw_protocol.specs.Lives.{new_life}
use Rattle.mw_protocol.specs.Records.{Record}
use Rattle.mw_protocol.specs.Spelled.{records_bytes}
use Rattle.mw_journal.specs.Image.{Stands, StandsAt}
use Rattle.mw_journal.specs.Refused.{IsNotJournal, IsOtherSeed}
use Rattle.mw_journal.specs.Settled.{AllSettled}
use Rattle.mw_multidata.specs.SeedOf.{SeedOf}
use Rattle.mw_journal.specs.declared.error.OpenError.{OpenError}
use Rattle.mw_journal.specs.declared.error.OpenError.TheVariants as open_error
use Rattle.mw_keep.specs.Entered.{AreSound, IsBadRecord}
use Rattle.mw_keep.specs.Holds.{AreRecords}
use Rattle.mw_journal.specs.Journal.{state_of}
use Rattle.mw_journal.specs.declared.state.JournalState.TheVariants.{Whole}
use Rattle.mw_keep.specs.Keeps.{Keeps, journal_of, kept_disk, origin_of}
use Rattle.mw_keep.specs.Standing.{Began}
use Rattle.mw_keep.specs.declared.error.KeepError.{KeepError}
use Rattle.mw_keep.specs.declared.error.KeepError.TheVariants.{BadSeed, DiskFault, NotJournal, OtherSeed, BadRecord, Memory}
use Rattle.mw_keep.specs.declared.kept.KeptRoom.{KeptRoom}

-- its life begins with the records for which the disk's bytes stand, its gate at their place, and is told to have begun so; where each image of the disk was settled for some records and a batch, it begins with these records, or with these and the batch
pub record Resumes {D : Type 0} (told : D → Option (List ℕ)) (may_leave : D → List ℕ → Type 0)
    (digest : List ℕ) (seed : Seed) (disk : D)
    (k : KeptRoom D)
    : Type 0 where
  pub journal : List Record
  pub place : ℕ
  pub keeps : Keeps may_leave digest (new_life seed journal place) k
  pub began : Began may_leave digest seed journal place (origin_of k)
  pub whole : state_of (journal_of k) ≡ Whole
  pub sound : AreSound seed journal
  pub stands : (f : List ℕ) → told disk ≡ Some f → StandsAt f digest (records_bytes journal) place
  pub one : (f : List ℕ) (kept batch : List Record) → told disk ≡ Some f → AreRecords kept
      → AreRecords batch
      → AllSettled (may_leave disk) digest (records_bytes kept) (records_bytes batch)
      → (journal ≡ kept) ⊎ (journal ≡ kept ++ batch)

-- the same of a seed file's bytes
pub record Recovers {D : Type 0} (told : D → Option (List ℕ)) (may_leave : D → List ℕ → Type 0)
    (file digest : List ℕ) (disk : D)
    (k : KeptRoom D)
    : Type 0 where
  pub seed : Seed
  pub accepted : SeedOf file (Ok seed)
  pub resumes : Resumes told may_leave digest seed disk k

-- why a disk gives no room of a seed, whose digest this is
abbrev pub RefusesResume : Option (List ℕ) → List ℕ → Seed → ℕ → ℕ → KeepError → Type 0
RefusesResume told digest seed before after (BadSeed kind path) = ⊥
RefusesResume told digest seed before after DiskFault = before < after
RefusesResume told digest seed before after (NotJournal at) =
    (f : List ℕ) → told ≡ Some f → IsNotJournal f digest at
RefusesResume told digest seed before after (OtherSeed found) =
    (f : List ℕ) → told ≡ Some f → IsOtherSeed f digest found
RefusesResume told digest seed before after (BadRecord at) =
    (f : List ℕ) → told ≡ Some f → (text : List ℕ) × Stands f digest text × IsBadRecord seed text at
RefusesResume told digest seed before after Memory = Unit {0}

-- the same of a seed file's bytes, which are judged first
abbrev pub RefusesRecover : Option (List ℕ) → List ℕ → List ℕ → ℕ → ℕ → KeepError → Type 0
RefusesRecover told file digest before after (BadSeed kind path) =
    SeedOf file (Err record { kind = kind; path = path })
RefusesRecover told file digest before after Memory = Unit {0}
RefusesRecover told file digest before after error =
    (seed : Seed) × SeedOf file (Ok seed) × RefusesResume told digest seed before after error

-- an error that isn't about the journal's bytes
abbrev pub IsOutside : KeepError → Type 0
IsOutside (BadSeed kind path) = Unit {0}
IsOutside DiskFault = Unit {0}
IsOutside (NotJournal at) = ⊥
IsOutside (OtherSeed found) = ⊥
IsOutside (BadRecord at) = ⊥
IsOutside Memory = Unit {0}

-- the bytes are no journal of the seed
abbrev pub IsNoJournal : KeepError → Type 0
IsNoJournal (BadSeed kind path) = ⊥
IsNoJournal DiskFault = ⊥
IsNoJournal (NotJournal at) = Unit {0}
IsNoJournal (OtherSeed found) = Unit {0}
IsNoJournal (BadRecord at) = ⊥
IsNoJournal Memory = ⊥

-- the disk in a room, or handed back
abbrev pub disk_left : {D : Type 0} → Result (KeptRoom D) (D × KeepError) → D
disk_left (Ok kept) = kept_disk kept
disk_left (Err refused) = refused.0

-- the error of a room for one of its journal, which isn't created here
abbrev pub keep_error_of : OpenError → KeepError
keep_error_of open_error.DiskFault = DiskFault
keep_error_of open_error.NotEmpty = Memory
keep_error_of (open_error.NotJournal at) = NotJournal at
keep_error_of (open_error.OtherSeed found) = OtherSeed found
keep_error_of open_error.Memory = Memory
