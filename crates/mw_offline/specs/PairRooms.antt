-- How `new-room --pair` ends.
use Rattle.std.specs.Prelude.{◌≡◌, ◌⊎◌, ℕ, List, Option, ⊤}
use Rattle.std.specs.Io.KnownBytes.{Keeps, Appends}
use Rattle.mw_edges.specs.Causes.{PutsFront, Rose}
use Rattle.mw_edges.specs.Folders.{MayBeUnread}
use Rattle.mw_model.specs.Seed.{Seed}
use Rattle.mw_causes.specs.Ends.{Told, Ends}
use Rattle.mw_causes.specs.RoomCauses.{room_line, room_status}
use Rattle.mw_causes.specs.SeedFiles.{DigestedIn, IsSeedStopped}
use Rattle.mw_causes.specs.declared.room_cause.RoomCause.{RoomCause}
use Rattle.mw_causes.specs.declared.room_cause.RoomCause.TheVariants.{SeedFile, NotEmpty}
use Rattle.mw_causes.specs.declared.stop.Stop.{Stop}
use Rattle.mw_causes.specs.declared.stop.Stop.TheVariants.{Fault, Memory, Refused}
use Rattle.mw_pair.specs.Making.{BytesStay, IsMadeIn}
use Rattle.mw_pair.specs.Names.{IsOneOf}
use Rattle.mw_offline.specs.FilesAround.{FilesAround}
use Rattle.mw_offline.specs.NewRooms.{HasByte, HasSeed, room_text}
use Rattle.mw_offline.specs.PairFiles.{PairOthersStay, PairUntouched}
use Rattle.mw_words.specs.declared.command_line.NewRoomWords.{NewRoomWords}

-- why the three journals aren't made
abbrev pub HasMakingCause : (List ℕ → Option (Option (List ℕ))) → List ℕ → Stop RoomCause → Type 0
HasMakingCause before choice Fault = ⊤
HasMakingCause before choice Memory = ⊤
HasMakingCause before choice (Refused (SeedFile cause)) = ⊥
HasMakingCause before choice (Refused NotEmpty) =
    (n : List ℕ) × IsOneOf choice n × HasByte (before n)

-- why no room is made: the seed file is judged first
abbrev pub HasPairCause : FilesAround → NewRoomWords → Stop RoomCause → Type 0
HasPairCause files room Fault =
    MayBeUnread (files.before room.multidata) files.may_fail × PairUntouched files room.journal
HasPairCause files room Memory = ⊤
HasPairCause files room (Refused (SeedFile cause)) =
    IsSeedStopped (files.before room.multidata) files.may_fail (Refused cause)
    × PairUntouched files room.journal
HasPairCause files room (Refused NotEmpty) =
    HasSeed files room × HasMakingCause files.before room.journal (Refused NotEmpty)

-- the seed file is accepted, and the three journals are made under its digest
pub record IsPairRoom (files : FilesAround) (room : NewRoomWords) : Type 0 where
  pub seed : Seed
  pub digest : List ℕ
  pub seed_in : DigestedIn (files.before room.multidata) seed digest
  pub made : IsMadeIn files.before files.may_leave room.journal digest

-- the seed file is accepted, and nothing was put; or the room was made, and a front of its text was
-- put
pub record MakesSomePair (files : FilesAround) (room : NewRoomWords) (old new : Option (List ℕ))
    : Type 0 where
  pub accepted : HasSeed files room
  pub left : Keeps old new ⊎ (IsPairRoom files room × PutsFront old new room_text)

-- the room was made, and just its text was put
pub record MakesPair (files : FilesAround) (room : NewRoomWords) (old new : Option (List ℕ))
    : Type 0 where
  pub made : IsPairRoom files room
  pub put : Appends old new room_text

-- how `new-room --pair` ended with a status; refused at a later file it leaves those before it made
pub record PairRoomEnds (status : ℕ) (files : FilesAround) (room : NewRoomWords) (out told : Told)
    : Type 0 where
  pub ends : Ends room_status room_line (HasPairCause files room) (Keeps out.old out.new)
      (MakesSomePair files room out.old out.new)
      (Rose files.failed_before files.failed ⊎ Rose out.before out.now)
      (MakesPair files room out.old out.new) status told
  pub others : PairOthersStay files room.journal
  -- whatever the status is
  pub bytes : BytesStay files.before files.after files.might_leave files.may_leave room.journal
