-- How `serve` ends.
use Rattle.std.specs.Prelude.{◌≡◌, ◌⊎◌, ◌++◌, ℕ, List, [], Bool, Option, Some, Result, Ok, Err, codes, decimal, IsTrue, is_some}
use Rattle.std.specs.Io.KnownBytes.{Appends, Keeps}
use Rattle.mw_model.specs.Seed.{Seed}
use Rattle.mw_edges.specs.Causes.{PutsFront}
use Rattle.mw_edges.specs.Folders.{opened_bytes}
use Rattle.mw_link.specs.declared.link.Heard.{Heard}
use Rattle.mw_multidata.specs.Digest.{digest_of}
use Rattle.mw_multidata.specs.SeedOf.{SeedOf}
use Rattle.mw_protocol.specs.Lives.{Step, life_after_all}
use Rattle.mw_thinning.specs.Checkpoints as across
use Rattle.mw_keep.specs.Left.{IsLeft}
use Rattle.mw_session.specs.Rooms.{count_all}
use Rattle.mw_session.specs.declared.served.Served.{Served}
use Rattle.mw_drive.specs.Ends.{IsFound, StaysSettled}
use Rattle.mw_drive.specs.declared.error.DriveError.{DriveError}
use Rattle.mw_causes.specs.DriveCauses.{drive_line, drive_status, drive_stop}
use Rattle.mw_causes.specs.Ends.{Ended, Told, stop_with}
use Rattle.mw_causes.specs.SeedFiles.{IsSeedStopped}
use Rattle.mw_causes.specs.declared.drive_cause.DriveCause.{DriveCause}
use Rattle.mw_causes.specs.declared.drive_cause.DriveCause.TheVariants.{SeedFile}
use Rattle.mw_causes.specs.declared.seed_cause.SeedCause.{SeedCause}
use Rattle.mw_causes.specs.declared.stop.Stop.{Stop}
use Rattle.mw_causes.specs.declared.stop.Stop.TheVariants.{Fault, Memory}
use Rattle.mw_offline.specs.Driving.{JournalLeaves, JournalRead, JournalRefused, JournalStays, SeedWas}
use Rattle.mw_offline.specs.FilesAround.{FilesAround, IsUntouched}
use Rattle.mw_words.specs.declared.command_line.ServeWords.{ServeWords}
use Rattle.mw_serve.specs.Hosted.{Finds, HostsShort, HostsToEnd, IsUnserved}
use Rattle.mw_serve.specs.Across.{SendsAcross}
use Rattle.mw_serve.specs.Sent.{KeepsSent, SendsFound}

-- what is put at the end
abbrev pub sessions_line : ℕ → List ℕ
sessions_line n = codes "sessions " ++ decimal n ++ codes "\n"

-- what is put of an outcome, and the stop that it comes to: the line for the number of links, a front
-- of it where the sink refused or memory was wanting, or nothing
abbrev pub Finishes : Result ℕ DriveError → Option (List ℕ) → Option (List ℕ)
    → Result (Unit {0}) (Stop DriveCause) → Type 0
Finishes (Err error) old new result = (result ≡ Err (drive_stop error)) × Keeps old new
Finishes (Ok n) old new (Ok done) = Appends old new (sessions_line n)
Finishes (Ok n) old new (Err stop) =
    ((stop ≡ Fault) ⊎ (stop ≡ Memory)) × PutsFront old new (sessions_line n)

-- a journal's file was found to hold the records of a room
abbrev pub FileFinds : FilesAround → List ℕ → List ℕ → Seed → Type 0
FileFinds files name bytes seed =
    Finds
    (IsFound (opened_bytes (files.before name)) (files.might_leave name) (digest_of bytes) seed)

-- the seed file gave no seed: nothing else was touched
pub record SeedStopped {A : Type 0} (files : FilesAround) (name : List ℕ) (served : List A)
    (old new : Option (List ℕ)) (stop : Stop DriveCause) : Type 0 where
  pub seed_stop : Stop SeedCause
  pub is : stop ≡ stop_with SeedFile seed_stop
  pub cause : IsSeedStopped (files.before name) files.may_fail seed_stop
  pub none : served ≡ []
  pub quiet : Keeps old new
  pub files_stay : (n : List ℕ) → IsUntouched files n

-- the seed file gave a seed, and its journal was found to hold the records of a room
pub record JournalFound (files : FilesAround) (named : ServeWords) : Type 0 where
  pub bytes : List ℕ
  pub seed : Seed
  pub seed_was : SeedWas files named.multidata bytes seed
  pub finds : FileFinds files named.journal bytes seed

module _ {T : Type 0} (sent_by : T → List (List ℕ)) where
  -- what was sent is kept by a journal: the run went on from the life that begins with the records
  -- that it found, or nothing was served; and where the journal is told and what a crash might leave
  -- of it was settled for the life to which a run of lives comes, with checkpoints between them or
  -- without, it is settled for a life that goes on from that one, to which what was sent keeps
  pub record SentKeeps (files : FilesAround) (name digest : List ℕ) (seed : Seed)
      (served : List (List (Served T)))
      : Type 0 where
    pub runs : SendsFound sent_by
        (IsFound (opened_bytes (files.before name)) (files.might_leave name) digest seed)
        (StaysSettled (files.might_leave name) (files.may_leave name) digest)
        (files.may_leave name) digest seed served
    pub shown : (steps : List Step) → IsTrue (is_some (opened_bytes (files.before name)))
        → IsLeft (files.might_leave name) digest (life_after_all seed steps)
        → KeepsSent sent_by (files.may_leave name) digest seed steps served
    pub across : (steps : List across.Step) → IsTrue (is_some (opened_bytes (files.before name)))
        → IsLeft (files.might_leave name) digest (across.life_after_all seed steps)
        → SendsAcross sent_by (files.may_leave name) digest seed steps served

-- what the lines of a gate tell, and what a crash may leave of a folder's disk
module _ {T D : Type 0} (heard_by : T → List Heard) (sent_by : T → List (List ℕ)) (faults : T → ℕ)
    (opened : T → ℕ) (is_shut : T → Bool) (may_leave : D → List ℕ → Type 0) where
  -- the room that a journal's file keeps was served to the end
  abbrev pub FileHostsToEnd : FilesAround → List ℕ → List ℕ → Seed → List (List (Served T))
      → Type 0
  FileHostsToEnd files name bytes seed served =
      HostsToEnd heard_by sent_by faults opened is_shut may_leave
      (IsFound (opened_bytes (files.before name)) (files.might_leave name) (digest_of bytes) seed)
      (files.may_leave name) (digest_of bytes) seed served

  -- or not to the end, or it wasn't served at all
  abbrev pub FileHostsShort : FilesAround → List ℕ → List ℕ → Seed → List (List (Served T))
      → DriveError → Type 0
  FileHostsShort files name bytes seed served error =
      IsUnserved (JournalRefused files (Some name) (digest_of bytes) seed)
      (JournalStays files (Some name) (digest_of bytes)) (JournalRead files (Some name))
      served error
      ⊎ HostsShort heard_by sent_by faults opened is_shut may_leave
      (IsFound (opened_bytes (files.before name)) (files.might_leave name) (digest_of bytes) seed)
      (files.may_leave name) (digest_of bytes) seed served error

  -- all was done, and the number of links was put
  pub record ServeDone (files : FilesAround) (named : ServeWords) (served : List (List (Served T)))
      (old new : Option (List ℕ)) : Type 0 where
    pub bytes : List ℕ
    pub seed : Seed
    pub seed_was : SeedWas files named.multidata bytes seed
    pub hosts : FileHostsToEnd files named.journal bytes seed served
    pub put : Appends old new (sessions_line (count_all served))

  -- the seed file gave a seed, and what came after it was stopped: before anything was put, or at
  -- the line for the number of links
  pub record ServeStopped (files : FilesAround) (named : ServeWords)
      (served : List (List (Served T))) (old new : Option (List ℕ)) (stop : Stop DriveCause)
      : Type 0 where
    pub bytes : List ℕ
    pub seed : Seed
    pub seed_was : SeedWas files named.multidata bytes seed
    pub why : ((error : DriveError) × (stop ≡ drive_stop error) × Keeps old new
        × FileHostsShort files named.journal bytes seed served error)
        ⊎ (FileHostsToEnd files named.journal bytes seed served
        × ((stop ≡ Fault) ⊎ (stop ≡ Memory))
        × PutsFront old new (sessions_line (count_all served)))

  -- so it is where the seed file is told
  abbrev pub ServeKeeps : FilesAround → ServeWords → List (List (Served T)) → Type 0
  ServeKeeps files named served = (bytes : List ℕ) (seed : Seed)
      → files.before named.multidata ≡ Some (Some bytes) → SeedOf bytes (Ok seed)
      → SentKeeps sent_by files named.journal (digest_of bytes) seed served

  -- how `serve` ended with a status, with what was served and what the out sink held
  pub record ServeEnds (status : ℕ) (files : FilesAround) (named : ServeWords)
      (served : List (List (Served T))) (out told : Told) : Type 0 where
    pub ends : ((status ≡ 0) × ServeDone files named served out.old out.new
        × Keeps told.old told.new)
        ⊎ ((stop : Stop DriveCause)
        × (SeedStopped files named.multidata served out.old out.new stop
        ⊎ ServeStopped files named served out.old out.new stop)
        × Ended drive_status drive_line stop status told)
    pub leaves : JournalLeaves files (Some named.journal)
    -- whatever the status is
    pub kept : ServeKeeps files named served
