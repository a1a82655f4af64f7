-- How `new-room` ends.
use Rattle.std.specs.Prelude.{◌≡◌, ◌≢◌, ◌⊎◌, ℕ, List, [], Option, Some, codes, ⊤}
use Rattle.std.specs.Io.KnownBytes.{Keeps, Appends}
use Rattle.mw_edges.specs.Causes.{PutsFront, Rose}
use Rattle.mw_edges.specs.Folders.{MayBeUnread, opened_bytes}
use Rattle.mw_model.specs.Seed.{Seed}
use Rattle.mw_journal.specs.Settled.{AllShut}
use Rattle.mw_causes.specs.RoomCauses.{room_status, room_line}
use Rattle.mw_causes.specs.Ends.{Told, Ends}
use Rattle.mw_offline.specs.FilesAround.{FilesAround, OthersStay, IsUntouched, IsOnlyRead}
use Rattle.mw_causes.specs.SeedFiles.{DigestedIn, SeedIn, IsSeedStopped}
use Rattle.mw_causes.specs.declared.stop.Stop.{Stop}
use Rattle.mw_causes.specs.declared.stop.Stop.TheVariants.{Fault, Memory, Refused}
use Rattle.mw_words.specs.declared.command_line.NewRoomWords.{NewRoomWords}
use Rattle.mw_causes.specs.declared.room_cause.RoomCause.{RoomCause}
use Rattle.mw_causes.specs.declared.room_cause.RoomCause.TheVariants.{SeedFile, NotEmpty}

-- where the folder tells a file's bytes, there are none
abbrev pub IsEmpty : Option (Option (List ℕ)) → Type 0
IsEmpty file = (bytes : List ℕ) → opened_bytes file ≡ Some bytes → bytes ≡ []

-- where the folder tells a file's bytes, there is one
abbrev pub HasByte : Option (Option (List ℕ)) → Type 0
HasByte file = (bytes : List ℕ) → opened_bytes file ≡ Some bytes → bytes ≢ []

-- the folder tells a file's bytes, and there is one
abbrev pub ShowsByte : Option (Option (List ℕ)) → Type 0
ShowsByte file = (bytes : List ℕ) × (opened_bytes file ≡ Some bytes) × (bytes ≢ [])

-- ---- causes

-- the seed file is accepted
abbrev pub HasSeed : FilesAround → NewRoomWords → Type 0
HasSeed files room = (seed : Seed) × SeedIn (files.before room.multidata) seed

-- why no journal is made in a file
abbrev pub HasJournalCause : Option (Option (List ℕ)) → Stop RoomCause → Type 0
HasJournalCause file Fault = ⊤
HasJournalCause file Memory = ⊤
HasJournalCause file (Refused (SeedFile cause)) = ⊥
HasJournalCause file (Refused NotEmpty) = HasByte file

-- why no room is made: the seed file is judged first, and where it gives no seed the journal's file
-- isn't touched
abbrev pub HasRoomCause : FilesAround → NewRoomWords → Stop RoomCause → Type 0
HasRoomCause files room Fault =
    MayBeUnread (files.before room.multidata) files.may_fail × IsUntouched files room.journal
HasRoomCause files room Memory = ⊤
HasRoomCause files room (Refused (SeedFile cause)) =
    IsSeedStopped (files.before room.multidata) files.may_fail (Refused cause)
    × IsUntouched files room.journal
HasRoomCause files room (Refused NotEmpty) =
    HasSeed files room × HasByte (files.before room.journal)

-- ---- ends

-- the seed file is accepted, the journal's file had no byte, and whatever a crash leaves of it
-- stands for the empty text under the digest of the seed file, with 0 at its first gate
pub record IsRoom (files : FilesAround) (room : NewRoomWords) : Type 0 where
  pub seed : Seed
  pub digest : List ℕ
  pub seed_in : DigestedIn (files.before room.multidata) seed digest
  pub empty : IsEmpty (files.before room.journal)
  pub shut : AllShut (files.may_leave room.journal) digest [] 40

abbrev pub room_text : List ℕ
room_text = codes "room made\n"

-- the journal's file was read at most, and nothing was put
pub record NoRoom (files : FilesAround) (room : NewRoomWords) (old new : Option (List ℕ)) : Type 0
  where
    pub journal : IsOnlyRead files room.journal
    pub put : Keeps old new

-- the seed file is accepted, and nothing was put; or the room was made, and a front of its text was
-- put
pub record MakesSome (files : FilesAround) (room : NewRoomWords)
    (old new : Option (List ℕ)) : Type 0 where
  pub accepted : HasSeed files room
  pub left : Keeps old new ⊎ (IsRoom files room × PutsFront old new room_text)

-- the room was made, and just its text was put
pub record MakesRoom (files : FilesAround) (room : NewRoomWords)
    (old new : Option (List ℕ)) : Type 0 where
  pub made : IsRoom files room
  pub put : Appends old new room_text

-- how `new-room` ended with a status, with what the out sink held and how often it failed
pub record NewRoomEnds (status : ℕ) (files : FilesAround) (room : NewRoomWords) (out told : Told)
    : Type 0 where
  pub ends : Ends room_status room_line (HasRoomCause files room)
      (NoRoom files room out.old out.new) (MakesSome files room out.old out.new)
      (Rose files.failed_before files.failed ⊎ Rose out.before out.now)
      (MakesRoom files room out.old out.new) status told
  pub others : OthersStay files room.journal
  -- whatever the status is
  pub bytes : ShowsByte (files.before room.journal) → IsOnlyRead files room.journal
