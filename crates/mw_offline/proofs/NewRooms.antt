-- What `new-room` leaves, whose seed file was read before its journal was made.
use Rattle.std.proofs.Common.{◌≡◌, ◌⊎◌, ◌∙◌, ℕ, List, [], Option, Result, Err, Bool, refl, sym, subst, inl, inr}
use Rattle.std.specs.Prelude.{IfErr, IsErrAnd, OnErr, OnOk}
use Rattle.std.proofs.KnownBytes.{Keeps-refl}
use Rattle.std.proofs.lemmas.Result.{on_ok_weaker}
use Rattle.std.specs.Io.KnownBytes.{Appends}
use Rattle.mw_edges.specs.Causes.{PutsFront}
use Rattle.mw_edges.specs.Folders.{SameImages}
use Rattle.mw_model.specs.Seed.{Seed}
use Rattle.mw_journal.specs.Settled.{AllShut}
use Rattle.mw_causes.specs.Ends.{HasLeft}
use Rattle.mw_offline.specs.FilesAround.{files_around, IsOnlyRead}
use Rattle.mw_words.specs.declared.command_line.NewRoomWords.{NewRoomWords}
use Rattle.mw_offline.specs.NewRooms.{IsEmpty, HasByte, ShowsByte, HasJournalCause, HasRoomCause, HasSeed, IsRoom, NoRoom, MakesSome, MakesRoom, room_text}
use Rattle.mw_causes.specs.SeedFiles.{DigestedIn}
use Rattle.mw_causes.specs.Tables.{Files}
use Rattle.mw_causes.specs.declared.stop.Stop.{Stop}
use Rattle.mw_causes.specs.declared.stop.Stop.TheVariants.{Fault, Memory, Refused}
use Rattle.mw_causes.specs.declared.room_cause.RoomCause.{RoomCause}
use Rattle.mw_causes.specs.declared.room_cause.RoomCause.TheVariants.{SeedFile, NotEmpty}
use Rattle.mw_causes.proofs.Endings.{passed_exit, left_late}

module _ {F : Type 0} (holds : F → Files) (images : F → List ℕ → List ℕ → Type 0) (opened : F → List ℕ → Bool) (may_fail : F → Bool) (faults : F → ℕ)
    (first second last : F) (same : (n : List ℕ) → holds second n ≡ holds first n) where
  -- of the journal's file
  module _ (name : List ℕ) (crash : (n : List ℕ) → SameImages (images first n) (images second n)) where
    pub only_read : IsOnlyRead (files_around holds images opened may_fail faults second last) name → IsOnlyRead (files_around holds images opened may_fail faults first last) name
    only_read r = record { told = r.told ∙ same name; crash = λ c is. (crash name c).0 (r.crash c is) }

    pub bytes_read : (ShowsByte (holds second name) → IsOnlyRead (files_around holds images opened may_fail faults second last) name) → ShowsByte (holds first name)
        → IsOnlyRead (files_around holds images opened may_fail faults first last) name
    bytes_read read shows = only_read (read (subst ShowsByte (sym (same name)) shows))

  module _ (room : NewRoomWords) (digest : List ℕ) (seed : (s : Seed) × DigestedIn (holds first room.multidata) s digest) where
    accepted : HasSeed (files_around holds images opened may_fail faults first last) room
    accepted = (seed.0, record { bytes = seed.1.bytes; is_file = seed.1.is_file; is = seed.1.is })

    -- no journal was made
    module _ (crash : (n : List ℕ) → SameImages (images first n) (images second n)) (held : Option (List ℕ)) (failed : Type 0) where
      left_by : (stop : Stop RoomCause) → HasJournalCause (holds second room.journal) stop
          → ((let r : Result (Unit {0}) (Stop RoomCause) = Err stop in r) ≡ Err (Refused NotEmpty) → IsOnlyRead (files_around holds images opened may_fail faults second last) room.journal)
          → (stop ≡ Fault → failed)
          → HasLeft (HasRoomCause (files_around holds images opened may_fail faults first last) room) (NoRoom (files_around holds images opened may_fail faults first last) room held held)
          (MakesSome (files_around holds images opened may_fail faults first last) room held held) failed stop
      left_by Fault cause kept rose = inr (record { accepted = accepted; left = inl (Keeps-refl held) }, rose refl)
      left_by Memory cause kept rose = inr (record { accepted = accepted; left = inl (Keeps-refl held) })
      left_by (Refused (SeedFile cause)) never kept rose = absurd never
      left_by (Refused NotEmpty) has kept rose =
          ((accepted, subst HasByte (same room.journal) has), record { journal = only_read room.journal crash (kept refl); put = Keeps-refl held })

      pub journal_exit : {T : Type 0} (answer : Result T (Stop RoomCause)) (stop : Stop RoomCause) → HasJournalCause (holds second room.journal) stop
          → ((let r : Result (Unit {0}) (Stop RoomCause) = Err stop in r) ≡ Err (Refused NotEmpty) → IsOnlyRead (files_around holds images opened may_fail faults second last) room.journal)
          → (stop ≡ Fault → failed) → IsErrAnd answer (λ e. e ≡ stop)
          → IfErr answer (HasLeft (HasRoomCause (files_around holds images opened may_fail faults first last) room) (NoRoom (files_around holds images opened may_fail faults first last) room held held)
          (MakesSome (files_around holds images opened may_fail faults first last) room held held) failed)
      journal_exit answer stop cause kept rose is =
          passed_exit (HasLeft (HasRoomCause (files_around holds images opened may_fail faults first last) room) (NoRoom (files_around holds images opened may_fail faults first last) room held held)
          (MakesSome (files_around holds images opened may_fail faults first last) room held held) failed) answer stop (left_by stop cause kept rose) is

    -- it was made
    module _ (empty : IsEmpty (holds second room.journal)) (shut : AllShut (images last room.journal) digest [] 40) (old new : Option (List ℕ)) where
      is_room : IsRoom (files_around holds images opened may_fail faults first last) room
      is_room = record { seed = seed.0; digest = digest; seed_in = seed.1; empty = subst IsEmpty (same room.journal) empty; shut = shut }

      pub room_done : (answer : Result (Unit {0}) (Stop RoomCause)) → OnOk answer (Appends old new room_text) → OnOk answer (MakesRoom (files_around holds images opened may_fail faults first last) room old new)
      room_done answer put = on_ok_weaker answer (λ p. record { made = is_room; put = p }) put

      pub room_left : (failed : Type 0) (answer : Result (Unit {0}) (Stop RoomCause)) → IfErr answer (λ stop. (stop ≡ Fault) ⊎ (stop ≡ Memory)) → OnErr answer (PutsFront old new room_text) → (answer ≡ Err Fault → failed)
          → IfErr answer (HasLeft (HasRoomCause (files_around holds images opened may_fail faults first last) room) (NoRoom (files_around holds images opened may_fail faults first last) room old new)
          (MakesSome (files_around holds images opened may_fail faults first last) room old new) failed)
      room_left failed answer late front rose =
          left_late (HasRoomCause (files_around holds images opened may_fail faults first last) room) (NoRoom (files_around holds images opened may_fail faults first last) room old new)
          (MakesSome (files_around holds images opened may_fail faults first last) room old new) failed answer late front rose (λ f. record { accepted = accepted; left = inr (is_room, f) })
