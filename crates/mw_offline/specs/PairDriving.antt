-- How `drive --pair` ends: as `drive` on the journal that CHOICE names.
use Rattle.std.specs.Prelude.{◌≡◌, ◌⊎◌, ℕ, List, Bool, true, false, Option, Some, None, Ok}
use Rattle.std.specs.Io.KnownBytes.{Keeps}
use Rattle.mw_edges.specs.Folders.{opened_bytes}
use Rattle.mw_model.specs.Seed.{Seed}
use Rattle.mw_multidata.specs.Digest.{digest_of}
use Rattle.mw_multidata.specs.SeedOf.{SeedOf}
use Rattle.mw_drive.specs.declared.error.DriveError.{DriveError}
use Rattle.mw_disk.specs.Crash.{Stays}
use Rattle.mw_checkpoint.specs.Chosen.{IsChosen}
use Rattle.mw_checkpoint.specs.Pair.{other_of}
use Rattle.mw_checkpoint.specs.declared.error.PairError.{PairError}
use Rattle.mw_causes.specs.Ends.{Told, Ended, stop_with}
use Rattle.mw_causes.specs.PairCauses.{choice_stop, pair_drive_line, pair_drive_status, played_stop, seed_cause_of}
use Rattle.mw_causes.specs.SeedFiles.{IsSeedStopped}
use Rattle.mw_causes.specs.declared.pair_drive_cause.PairDriveCause.{PairDriveCause}
use Rattle.mw_causes.specs.declared.seed_cause.SeedCause.{SeedCause}
use Rattle.mw_causes.specs.declared.stop.Stop.{Stop}
use Rattle.mw_pair.specs.Choosing.{NamesJournal, RefusesChoice, StaysSettled}
use Rattle.mw_pair.specs.Folders.{IsOpenedAtMost}
use Rattle.mw_pair.specs.Names.{journal_name}
use Rattle.mw_offline.specs.Driving.{JournalKeeps, RunsShort, RunsToEnd, SeedWas, run_of}
use Rattle.mw_offline.specs.FilesAround.{FilesAround, IsUntouched}
use Rattle.mw_offline.specs.PairFiles.{PairLeaves, PairUnplayed}
use Rattle.mw_words.specs.declared.command_line.DriveWords.{DriveWords}

-- the name of CHOICE, where the words of `drive` name a pair room
abbrev pub choice_in : Bool → Option (List ℕ) → Option (List ℕ)
choice_in true journal = journal
choice_in false journal = None

abbrev pub pair_choice : DriveWords → Option (List ℕ)
pair_choice named = choice_in named.pair named.journal

-- ---- the room

-- the seed file was read and gives this seed, and CHOICE names the journal of a number under its
-- digest; the other journal was opened at most, and CHOICE is settled as it was: a crash leaves of
-- it only what names that journal
pub record RoomFound (files : FilesAround) (multidata choice bytes : List ℕ) (seed : Seed)
    (number : ℕ)
    : Type 0 where
  pub seed_was : SeedWas files multidata bytes seed
  pub names : NamesJournal (opened_bytes (files.before choice)) (files.might_leave choice)
      (digest_of bytes) number
  pub settled : StaysSettled (files.might_leave choice) (files.may_leave choice) (digest_of bytes)
  pub chosen : IsChosen files.may_leave (digest_of bytes) number choice
  pub other : IsOpenedAtMost (files.before (journal_name choice (other_of number)))
      (files.after (journal_name choice (other_of number)))
      (files.might_leave (journal_name choice (other_of number)))
      (files.may_leave (journal_name choice (other_of number)))
      (files.was_open (journal_name choice (other_of number)))
      (files.is_open (journal_name choice (other_of number)))

-- the seed file gave no seed: no file was touched
pub record RoomUnread (files : FilesAround) (multidata : List ℕ) (stop : Stop PairDriveCause)
    : Type 0 where
  pub seed_stop : Stop SeedCause
  pub is : stop ≡ stop_with seed_cause_of seed_stop
  pub cause : IsSeedStopped (files.before multidata) files.may_fail seed_stop
  pub files_stay : (n : List ℕ) → IsUntouched files n

-- CHOICE names no journal under a digest, a file couldn't be opened, or memory ran out
pub record IsRefusedChoice (files : FilesAround) (choice digest : List ℕ)
    (stop : Stop PairDriveCause)
    : Type 0 where
  pub error : PairError
  pub is : stop ≡ choice_stop error
  pub refused : RefusesChoice files.before choice digest error
  pub unplayed : PairUnplayed files choice digest

-- the seed file gave a seed, and CHOICE is refused under its digest
pub record RoomRefused (files : FilesAround) (multidata choice : List ℕ)
    (stop : Stop PairDriveCause)
    : Type 0 where
  pub bytes : List ℕ
  pub seed : Seed
  pub seed_was : SeedWas files multidata bytes seed
  pub refused : IsRefusedChoice files choice (digest_of bytes) stop

abbrev pub RoomStopped : FilesAround → List ℕ → List ℕ → Stop PairDriveCause → Type 0
RoomStopped files multidata choice stop =
    RoomUnread files multidata stop ⊎ RoomRefused files multidata choice stop

-- ---- the run

-- the script was run to its end on the journal that CHOICE names
pub record PairDriveDone {S : Type 0} (source : S → Option (List ℕ)) (files : FilesAround)
    (multidata choice : List ℕ) (before after : S) (old new : Option (List ℕ))
    : Type 0 where
  pub bytes : List ℕ
  pub seed : Seed
  pub number : ℕ
  pub found : RoomFound files multidata choice bytes seed number
  pub runs : RunsToEnd source files (Some (journal_name choice number))
      (run_of bytes seed before after old new)

-- or not to its end
pub record PairRunStopped {S : Type 0} (source : S → Option (List ℕ)) (files : FilesAround)
    (multidata choice : List ℕ) (before after : S) (old new : Option (List ℕ))
    (stop : Stop PairDriveCause)
    : Type 0 where
  pub bytes : List ℕ
  pub seed : Seed
  pub number : ℕ
  pub found : RoomFound files multidata choice bytes seed number
  pub why : DriveError
  pub is : stop ≡ played_stop why
  pub short : RunsShort source files (Some (journal_name choice number))
      (run_of bytes seed before after old new) why

-- no room was found: nothing was put, and the input wasn't touched
pub record PairNeverRan {S : Type 0} (files : FilesAround) (multidata choice : List ℕ)
    (before after : S) (old new : Option (List ℕ)) (stop : Stop PairDriveCause)
    : Type 0 where
  pub stopped : RoomStopped files multidata choice stop
  pub untouched : after ≡ before
  pub quiet : Keeps old new

abbrev pub PairDriveStopped : {S : Type 0} → (S → Option (List ℕ)) → FilesAround → List ℕ → List ℕ
    → S → S → Option (List ℕ) → Option (List ℕ) → Stop PairDriveCause → Type 0
PairDriveStopped source files multidata choice before after old new stop =
    PairNeverRan files multidata choice before after old new stop
    ⊎ PairRunStopped source files multidata choice before after old new stop

-- ---- whatever the status is

-- what was put is kept by the journal that CHOICE names
pub record PairPlayKeeps (files : FilesAround) (multidata choice : List ℕ)
    (old new : Option (List ℕ))
    : Type 0 where
  pub bytes : List ℕ
  pub seed : Seed
  pub number : ℕ
  pub found : RoomFound files multidata choice bytes seed number
  pub kept : JournalKeeps files (Some (journal_name choice number)) (digest_of bytes) seed old new

-- where the seed file is told, what a crash may leave of CHOICE is settled as before, and of the
-- journals it leaves only what it might have left
pub record IsStillSettled (files : FilesAround) (choice digest : List ℕ) : Type 0 where
  pub settled : StaysSettled (files.might_leave choice) (files.may_leave choice) digest
  pub journals : (number : ℕ) → Stays (files.might_leave (journal_name choice number))
      (files.may_leave (journal_name choice number))

abbrev pub RoomStays : FilesAround → List ℕ → List ℕ → Type 0
RoomStays files multidata choice = (bytes : List ℕ) (seed : Seed)
    → files.before multidata ≡ Some (Some bytes) → SeedOf bytes (Ok seed)
    → IsStillSettled files choice (digest_of bytes)

-- so it is where anything was put; else the room is as it was
abbrev pub PairDriveKeeps : FilesAround → List ℕ → List ℕ → Option (List ℕ) → Option (List ℕ)
    → Type 0
PairDriveKeeps files multidata choice old new =
    (Keeps old new × RoomStays files multidata choice)
    ⊎ PairPlayKeeps files multidata choice old new

-- where the seed file is told, what a crash may leave of CHOICE is settled as before
abbrev pub ChoiceStays : FilesAround → List ℕ → List ℕ → Type 0
ChoiceStays files multidata choice = (bytes : List ℕ) (seed : Seed)
    → files.before multidata ≡ Some (Some bytes) → SeedOf bytes (Ok seed)
    → StaysSettled (files.might_leave choice) (files.may_leave choice) (digest_of bytes)

-- how `drive --pair` ended with a status
pub record PairDriveEnds {S : Type 0} (source : S → Option (List ℕ)) (status : ℕ)
    (files : FilesAround) (multidata choice : List ℕ) (before after : S) (out told : Told)
    : Type 0 where
  pub ends : ((status ≡ 0)
      × PairDriveDone source files multidata choice before after out.old out.new
      × Keeps told.old told.new)
      ⊎ ((stop : Stop PairDriveCause)
      × PairDriveStopped source files multidata choice before after out.old out.new stop
      × Ended pair_drive_status pair_drive_line stop status told)
  pub leaves : PairLeaves files choice
  pub stays : ChoiceStays files multidata choice
  pub kept : PairDriveKeeps files multidata choice out.old out.new
