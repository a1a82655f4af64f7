-- How `drive` ends.
use Rattle.std.specs.Prelude.{◌≡◌, ◌⊎◌, ℕ, List, [], Option, Some, None, Ok, IsTrue, is_some, ⊤}
use Rattle.std.specs.Io.KnownBytes.{Keeps}
use Rattle.mw_disk.specs.Crash.{Stays}
use Rattle.mw_edges.specs.Folders.{StaysOrIsMade, opened_bytes}
use Rattle.mw_model.specs.Seed.{Seed}
use Rattle.mw_multidata.specs.Digest.{digest_of}
use Rattle.mw_multidata.specs.SeedOf.{SeedOf}
use Rattle.mw_protocol.specs.Lives.{Step, life_after_all, new_life}
use Rattle.mw_protocol.specs.Records.{Record}
use Rattle.mw_drive.specs.Ends.{IsFound, Refuses, StaysSettled, Drives, StopsWith, IsOfJournal}
use Rattle.mw_drive.specs.Left.{KeepsFound, KeepsFrom, KeepsShown}
use Rattle.mw_thinning.specs.Checkpoints as across
use Rattle.mw_keep.specs.Left.{IsLeft}
use Rattle.mw_drive.specs.declared.error.DriveError.{DriveError}
use Rattle.mw_drive.specs.declared.error.JournalRefusal.{JournalRefusal}
use Rattle.mw_causes.specs.DriveCauses.{drive_stop, drive_status, drive_line}
use Rattle.mw_causes.specs.Ends.{Told, Ended, stop_with}
use Rattle.mw_offline.specs.Across.{KeepsAcross}
use Rattle.mw_offline.specs.FilesAround.{FilesAround, IsUntouched}
use Rattle.mw_causes.specs.SeedFiles.{IsFile, IsSeedStopped}
use Rattle.mw_causes.specs.declared.seed_cause.SeedCause.{SeedCause}
use Rattle.mw_causes.specs.declared.stop.Stop.{Stop}
use Rattle.mw_words.specs.declared.command_line.DriveWords.{DriveWords}
use Rattle.mw_causes.specs.declared.drive_cause.DriveCause.{DriveCause}
use Rattle.mw_causes.specs.declared.drive_cause.DriveCause.TheVariants.{SeedFile}

-- ---- the journal

-- what is told of the bytes of the journal; one in memory is told
abbrev pub journal_told : FilesAround → Option (List ℕ) → Option (List ℕ)
journal_told files None = Some []
journal_told files (Some name) = opened_bytes (files.before name)

-- what a crash may leave of a journal in memory: nothing
abbrev pub NoImages : List ℕ → Type 0
NoImages c = ⊥

-- what it may leave of the journal, of files of which it may leave this
abbrev pub journal_images : (List ℕ → List ℕ → Type 0) → Option (List ℕ) → List ℕ → Type 0
journal_images images None = NoImages
journal_images images (Some name) = images name

-- a new journal holds no records, and its first gate stands behind the header
abbrev pub IsNewJournal : List Record → ℕ → Type 0
IsNewJournal journal place = (journal ≡ []) × (place ≡ 40)

-- the records for which the journal stood, with the place of its first gate that isn't open; one in
-- memory is new
abbrev pub JournalHeld : FilesAround → Option (List ℕ) → List ℕ → Seed → List Record → ℕ → Type 0
JournalHeld files None digest seed = IsNewJournal
JournalHeld files (Some name) digest seed =
    IsFound (opened_bytes (files.before name)) (files.might_leave name) digest seed

-- why it is refused; one in memory isn't
abbrev pub JournalRefused : FilesAround → Option (List ℕ) → List ℕ → Seed → JournalRefusal
    → Type 0
JournalRefused files None digest seed refusal = ⊥
JournalRefused files (Some name) digest seed refusal =
    Refuses (opened_bytes (files.before name)) digest seed refusal

-- what a crash may leave of it is settled as before
abbrev pub JournalStays : FilesAround → Option (List ℕ) → List ℕ → Type 0
JournalStays files journal digest =
    StaysSettled (journal_images files.might_leave journal)
    (journal_images files.may_leave journal) digest

-- it was read at most: it is as it was, or is made empty where it wasn't there, and a crash leaves of
-- it only what it might have left
abbrev pub JournalRead : FilesAround → Option (List ℕ) → Type 0
JournalRead files None = ⊤
JournalRead files (Some name) = StaysOrIsMade (files.before name) (files.after name)
    × Stays (files.might_leave name) (files.may_leave name)

-- the files but the journal's are as they were, and just those are open as disks that were; a
-- journal whose file was told is told
pub record JournalLeaves (files : FilesAround) (journal : Option (List ℕ)) : Type 0 where
  pub tells : (n : List ℕ)
      → is_some (opened_bytes (files.after n)) ≡ is_some (opened_bytes (files.before n))
  pub others : (n : List ℕ) → (journal ≡ Some n → ⊥) → IsUntouched files n
  pub opened : (n : List ℕ) → files.is_open n ≡ files.was_open n

-- what the run did alone, where the journal is told, whatever wrote it: it found the journal's
-- records, and went on from the life that begins with them, or else put nothing; a journal in memory
-- it went on with from the first life
abbrev pub JournalRuns : FilesAround → Option (List ℕ) → List ℕ → Seed → Option (List ℕ)
    → Option (List ℕ) → Type 0
JournalRuns files None digest seed old new =
    KeepsFrom NoImages digest (new_life seed [] 40) old new
JournalRuns files (Some name) digest seed old new =
    IsTrue (is_some (opened_bytes (files.before name)))
    → KeepsFound
    (IsFound (opened_bytes (files.before name)) (files.might_leave name) digest seed)
    (StaysSettled (files.might_leave name) (files.may_leave name) digest)
    (files.may_leave name) digest seed old new

-- what was put is kept: where the journal is told, and what a crash might leave of it was settled for
-- the life to which a run of lives comes, then it is settled for a life that goes on from that one,
-- and what was put keeps to that life; with a journal in memory, to a life that goes on from the
-- first one
abbrev pub JournalShows : FilesAround → Option (List ℕ) → List ℕ → Seed → Option (List ℕ)
    → Option (List ℕ) → Type 0
JournalShows files None digest seed old new = KeepsShown NoImages digest seed [] old new
JournalShows files (Some name) digest seed old new = (steps : List Step)
    → IsTrue (is_some (opened_bytes (files.before name)))
    → IsLeft (files.might_leave name) digest (life_after_all seed steps)
    → KeepsShown (files.may_leave name) digest seed steps old new

-- so it is where the run of lives has checkpoints between them
abbrev pub JournalShowsAcross : FilesAround → Option (List ℕ) → List ℕ → Seed → Option (List ℕ)
    → Option (List ℕ) → Type 0
JournalShowsAcross files None digest seed old new = KeepsAcross NoImages digest seed [] old new
JournalShowsAcross files (Some name) digest seed old new = (steps : List across.Step)
    → IsTrue (is_some (opened_bytes (files.before name)))
    → IsLeft (files.might_leave name) digest (across.life_after_all seed steps)
    → KeepsAcross (files.may_leave name) digest seed steps old new

-- what was put is kept in each of these ways
pub record JournalKeeps (files : FilesAround) (journal : Option (List ℕ)) (digest : List ℕ)
    (seed : Seed) (old new : Option (List ℕ))
    : Type 0 where
  pub runs : JournalRuns files journal digest seed old new
  pub shown : JournalShows files journal digest seed old new
  pub across : JournalShowsAcross files journal digest seed old new

-- ---- the run of a script on it

-- the bytes of a seed file, its seed, the input before and after, and what the out sink held before
-- and after
pub record ScriptRun (S : Type 0) : Type 0 where
  pub bytes : List ℕ
  pub seed : Seed
  pub before : S
  pub after : S
  pub old : Option (List ℕ)
  pub new : Option (List ℕ)

abbrev pub run_of : {S : Type 0} → List ℕ → Seed → S → S → Option (List ℕ) → Option (List ℕ)
    → ScriptRun S
run_of bytes seed before after old new = record {
  bytes = bytes;
  seed = seed;
  before = before;
  after = after;
  old = old;
  new = new;
}

-- the script was read to its end and run to its end, on the room that the journal keeps
abbrev pub RunsToEnd : {S : Type 0} → (S → Option (List ℕ)) → FilesAround → Option (List ℕ)
    → ScriptRun S → Type 0
RunsToEnd source files journal run =
    Drives (JournalHeld files journal (digest_of run.bytes) run.seed)
    (journal_told files journal) (journal_images files.may_leave journal)
    (digest_of run.bytes) run.seed (source run.before) (source run.after) run.old run.new

-- the journal, the script or its run was stopped; the journal is refused only where what a crash
-- might leave of it isn't settled for a life to which a run of lives comes
pub record RunsShort {S : Type 0} (source : S → Option (List ℕ)) (files : FilesAround)
    (journal : Option (List ℕ)) (run : ScriptRun S) (why : DriveError) : Type 0 where
  pub stops : StopsWith source (JournalHeld files journal (digest_of run.bytes) run.seed)
      (JournalRefused files journal (digest_of run.bytes) run.seed)
      (JournalStays files journal (digest_of run.bytes)) (JournalRead files journal)
      (journal_told files journal) (journal_images files.may_leave journal)
      (digest_of run.bytes) run.seed run.before run.after run.old run.new why
  pub accepted : (steps : List Step) → IsTrue (is_some (journal_told files journal))
      → IsLeft (journal_images files.might_leave journal) (digest_of run.bytes)
      (life_after_all run.seed steps) → IsOfJournal why → ⊥

-- ---- ends

-- the seed file was read, and gives this seed
pub record SeedWas (files : FilesAround) (name bytes : List ℕ) (seed : Seed) : Type 0 where
  pub is_file : IsFile (files.before name) bytes
  pub is : SeedOf bytes (Ok seed)

-- all was done
pub record DriveDone {S : Type 0} (source : S → Option (List ℕ)) (files : FilesAround)
    (named : DriveWords) (before after : S) (old new : Option (List ℕ)) : Type 0 where
  pub bytes : List ℕ
  pub seed : Seed
  pub seed_was : SeedWas files named.multidata bytes seed
  pub runs : RunsToEnd source files named.journal (run_of bytes seed before after old new)

-- the seed file gave no seed: nothing else was touched
pub record SeedStopped {S : Type 0} (files : FilesAround) (named : DriveWords) (before after : S)
    (old new : Option (List ℕ)) (stop : Stop DriveCause) : Type 0 where
  pub seed_stop : Stop SeedCause
  pub is : stop ≡ stop_with SeedFile seed_stop
  pub cause : IsSeedStopped (files.before named.multidata) files.may_fail seed_stop
  pub untouched : after ≡ before
  pub quiet : Keeps old new
  pub files_stay : (n : List ℕ) → IsUntouched files n

-- or it gave one, and what came after it was stopped
pub record RunStopped {S : Type 0} (source : S → Option (List ℕ)) (files : FilesAround)
    (named : DriveWords) (before after : S) (old new : Option (List ℕ)) (stop : Stop DriveCause)
    : Type 0 where
  pub bytes : List ℕ
  pub seed : Seed
  pub seed_was : SeedWas files named.multidata bytes seed
  pub why : DriveError
  pub is : stop ≡ drive_stop why
  pub short : RunsShort source files named.journal
      (run_of bytes seed before after old new) why

abbrev pub DriveStopped : {S : Type 0} → (S → Option (List ℕ)) → FilesAround → DriveWords → S → S
    → Option (List ℕ) → Option (List ℕ) → Stop DriveCause → Type 0
DriveStopped source files named before after old new stop =
    SeedStopped files named before after old new stop
    ⊎ RunStopped source files named before after old new stop

-- what was put is kept, where the seed file is told
abbrev pub DriveKeeps : FilesAround → DriveWords → Option (List ℕ) → Option (List ℕ) → Type 0
DriveKeeps files named old new = (bytes : List ℕ) (seed : Seed)
    → files.before named.multidata ≡ Some (Some bytes) → SeedOf bytes (Ok seed)
    → JournalKeeps files named.journal (digest_of bytes) seed old new

-- how `drive` ended with a status, the source telling so what is left of it, with what the out sink
-- held: all was done, or a stop was told, or want of memory for its line
pub record DriveEnds {S : Type 0} (source : S → Option (List ℕ)) (status : ℕ)
    (files : FilesAround) (named : DriveWords) (before after : S) (out told : Told)
    : Type 0 where
  pub ends : ((status ≡ 0) × DriveDone source files named before after out.old out.new
      × Keeps told.old told.new)
      ⊎ ((stop : Stop DriveCause)
      × DriveStopped source files named before after out.old out.new stop
      × Ended drive_status drive_line stop status told)
  pub leaves : JournalLeaves files named.journal
  -- whatever the status is
  pub kept : DriveKeeps files named out.old out.new
