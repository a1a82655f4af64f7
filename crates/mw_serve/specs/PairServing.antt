-- How `serve --pair` ends: as `serve` on the journal that CHOICE names.
use Rattle.std.specs.Prelude.{◌≡◌, ◌⊎◌, ℕ, List, [], Bool, false, Option, Result, Ok, Err}
use Rattle.std.specs.Io.KnownBytes.{Keeps}
use Rattle.mw_model.specs.Seed.{Seed}
use Rattle.mw_link.specs.declared.link.Heard.{Heard}
use Rattle.mw_session.specs.declared.served.Served.{Served}
use Rattle.mw_drive.specs.declared.error.DriveError.{DriveError}
use Rattle.mw_causes.specs.Ends.{Ended, Told, stop_with}
use Rattle.mw_causes.specs.PairCauses.{pair_drive_line, pair_drive_status}
use Rattle.mw_causes.specs.declared.drive_cause.DriveCause.{DriveCause}
use Rattle.mw_causes.specs.declared.pair_drive_cause.PairDriveCause.{PairDriveCause}
use Rattle.mw_causes.specs.declared.pair_drive_cause.PairDriveCause.TheVariants.{Drive}
use Rattle.mw_causes.specs.declared.stop.Stop.{Stop}
use Rattle.mw_pair.specs.Names.{journal_name}
use Rattle.mw_offline.specs.FilesAround.{FilesAround}
use Rattle.mw_offline.specs.PairDriving.{ChoiceStays, RoomFound, RoomStays, RoomStopped}
use Rattle.mw_offline.specs.PairFiles.{PairLeaves}
use Rattle.mw_words.specs.declared.command_line.ServeWords.{ServeWords}
use Rattle.mw_serve.specs.Serving.{FileFinds, Finishes, ServeDone, ServeKeeps, ServeStopped}

-- the words of `serve` on a journal of the pair room
abbrev pub hosting : ServeWords → ℕ → ServeWords
hosting named number = record {
  multidata = named.multidata;
  journal = journal_name named.journal number;
  pair = false;
  bind = named.bind;
  workers = named.workers;
  accept = named.accept;
}

-- the seed file gave a seed, CHOICE names a journal, and that was found to hold the records of a room
pub record PairJournalFound (files : FilesAround) (named : ServeWords) : Type 0 where
  pub bytes : List ℕ
  pub seed : Seed
  pub number : ℕ
  pub found : RoomFound files named.multidata named.journal bytes seed number
  pub finds : FileFinds files (journal_name named.journal number) bytes seed

-- no room was found: nothing was served or put
pub record PairNeverServed {A : Type 0} (files : FilesAround) (named : ServeWords) (served : List A)
    (old new : Option (List ℕ)) (stop : Stop PairDriveCause)
    : Type 0 where
  pub stopped : RoomStopped files named.multidata named.journal stop
  pub none : served ≡ []
  pub quiet : Keeps old new

module _ {T D : Type 0} (heard_by : T → List Heard) (sent_by : T → List (List ℕ)) (faults : T → ℕ)
    (opened : T → ℕ) (is_shut : T → Bool) (may_leave : D → List ℕ → Type 0) where
  -- all was done on the journal that CHOICE names
  pub record PairServeDone (files : FilesAround) (named : ServeWords)
      (served : List (List (Served T))) (old new : Option (List ℕ)) : Type 0 where
    pub bytes : List ℕ
    pub seed : Seed
    pub number : ℕ
    pub found : RoomFound files named.multidata named.journal bytes seed number
    pub serves : ServeDone heard_by sent_by faults opened is_shut may_leave files
        (hosting named number) served old new

  -- or it was stopped
  pub record PairServeShort (files : FilesAround) (named : ServeWords)
      (served : List (List (Served T))) (old new : Option (List ℕ)) (stop : Stop PairDriveCause)
      : Type 0 where
    pub bytes : List ℕ
    pub seed : Seed
    pub number : ℕ
    pub found : RoomFound files named.multidata named.journal bytes seed number
    pub served_stop : Stop DriveCause
    pub is : stop ≡ stop_with Drive served_stop
    pub short : ServeStopped heard_by sent_by faults opened is_shut may_leave files
        (hosting named number) served old new served_stop

  abbrev pub PairServeStopped : FilesAround → ServeWords → List (List (Served T))
      → Option (List ℕ) → Option (List ℕ) → Stop PairDriveCause → Type 0
  PairServeStopped files named served old new stop =
      PairNeverServed files named served old new stop
      ⊎ PairServeShort files named served old new stop

  -- what was sent is kept by the journal that CHOICE names
  pub record PairHostKeeps (files : FilesAround) (named : ServeWords)
      (served : List (List (Served T))) : Type 0 where
    pub bytes : List ℕ
    pub seed : Seed
    pub number : ℕ
    pub found : RoomFound files named.multidata named.journal bytes seed number
    pub kept : ServeKeeps heard_by sent_by faults opened is_shut may_leave files
        (hosting named number) served

  -- so it is where anything was served; else the room is as it was
  abbrev pub PairServeKeeps : FilesAround → ServeWords → List (List (Served T)) → Type 0
  PairServeKeeps files named served =
      ((served ≡ []) × RoomStays files named.multidata named.journal)
      ⊎ PairHostKeeps files named served

  -- how `serve --pair` ended with a status
  pub record PairServeEnds (status : ℕ) (files : FilesAround) (named : ServeWords)
      (served : List (List (Served T))) (out told : Told) : Type 0 where
    pub ends : ((status ≡ 0) × PairServeDone files named served out.old out.new
        × Keeps told.old told.new)
        ⊎ ((stop : Stop PairDriveCause)
        × PairServeStopped files named served out.old out.new stop
        × Ended pair_drive_status pair_drive_line stop status told)
    pub leaves : PairLeaves files named.journal
    pub stays : ChoiceStays files named.multidata named.journal
    -- whatever the status is
    pub kept : PairServeKeeps files named served

-- ---- at the end

-- an answer whose stop is that of the run on the journal that CHOICE names
abbrev pub passed_on : Result (Unit {0}) (Stop DriveCause) → Result (Unit {0}) (Stop PairDriveCause)
passed_on (Ok done) = Ok done
passed_on (Err stop) = Err (stop_with Drive stop)

-- what is put of an outcome, as of a room of one journal
abbrev pub PairFinishes : Result ℕ DriveError → Option (List ℕ) → Option (List ℕ)
    → Result (Unit {0}) (Stop PairDriveCause) → Type 0
PairFinishes outcome old new result = (answer : Result (Unit {0}) (Stop DriveCause))
    × Finishes outcome old new answer × (result ≡ passed_on answer)
