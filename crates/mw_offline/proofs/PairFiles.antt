-- Commands on pair rooms, whose seed file was read before.
use Rattle.std.proofs.Common.{◌≡◌, ◌∙◌, ◌⊎◌, ◌≤◌, ℕ, zero, suc, List, [], ◌++◌, Bool, Option, Some, Result, Ok, Err, codes, refl, ap, subst, inl, inr}
use Rattle.std.specs.Prelude.{IfErr, IsErrAnd, OnErr, OnOk}
use Rattle.std.specs.Io.KnownBytes.{Appends, Keeps}
use Rattle.std.proofs.KnownBytes.{Keeps-refl}
use Rattle.std.proofs.lemmas.Result.{on_ok_weaker}
use Rattle.mw_disk.specs.Crash.{Stays}
use Rattle.mw_edges.specs.Causes.{PutsFront}
use Rattle.mw_edges.specs.Folders.{SameImages}
use Rattle.mw_model.specs.Seed.{Seed}
use Rattle.mw_multidata.specs.Digest.{digest_of}
use Rattle.mw_checkpoint.specs.Created.{disk_at}
use Rattle.mw_checkpoint.specs.declared.error.PairError.{PairError}
use Rattle.mw_checkpoint.specs.declared.error.PairError.TheVariants as error
use Rattle.mw_checkpoint.specs.declared.switching.Kept.{Kept}
use Rattle.mw_causes.specs.Ends.{HasLeft, Ended, IsTold, Told, stop_with}
use Rattle.mw_causes.specs.PairCauses.{IsOfMaking, making_stop, thin_stop}
use Rattle.mw_causes.specs.SeedFiles.{DigestedIn, IsSeedStopped}
use Rattle.mw_causes.specs.Tables.{Files}
use Rattle.mw_causes.specs.declared.room_cause.RoomCause.{RoomCause}
use Rattle.mw_causes.specs.declared.room_cause.RoomCause.TheVariants as room_cause
use Rattle.mw_causes.specs.declared.seed_cause.SeedCause.{SeedCause}
use Rattle.mw_causes.specs.declared.stop.Stop.{Stop}
use Rattle.mw_causes.specs.declared.stop.Stop.TheVariants.{Fault, Memory, Refused}
use Rattle.mw_causes.specs.declared.thin_cause.ThinCause.{ThinCause}
use Rattle.mw_causes.specs.declared.thin_cause.ThinCause.TheVariants as thin_cause
use Rattle.mw_causes.proofs.Endings.{left_late, passed_exit}
use Rattle.mw_pair.specs.Folders.{IsFault, IsUnmoved, OthersStay}
use Rattle.mw_pair.specs.Making.{BytesStay, IsMadeIn, RefusesMaking}
use Rattle.mw_pair.specs.Names.{IsOneOf, file_names}
use Rattle.mw_pair.specs.Thinning.{AreThinned, KeepAllowed, KeepSettled, KeepsPair, RefusesThin, bytes_in}
use Rattle.mw_pair.proofs.Lifted.{still_settles, still_stands}
use Rattle.mw_pair.proofs.Since.{bytes_since, keep_since, settle_since}
use Rattle.mw_pair.proofs.Steps.{unmoved_then}
use Rattle.mw_offline.specs.FilesAround.{FilesAround, files_around}
use Rattle.mw_offline.specs.NewRooms.{HasSeed, room_text}
use Rattle.mw_offline.specs.PairFiles.{PairOthersStay, PairUntouched}
use Rattle.mw_offline.specs.PairRooms.{HasMakingCause, HasPairCause, IsPairRoom, MakesPair, MakesSomePair, PairRoomEnds}
use Rattle.mw_offline.specs.ThinRuns.{IsThinnedIn, ThinDone, ThinEnds, ThinFails, ThinKeeps, ThinStopped, kept_text}
use Rattle.mw_offline.proofs.Driving.{told_bytes}
use Rattle.mw_words.specs.declared.command_line.NewRoomWords.{NewRoomWords}
use Rattle.mw_words.specs.declared.command_line.ThinWords.{ThinWords}

-- ---- errors

-- the name of a place is one of the three
one_of_place : (choice : List ℕ) (place : ℕ) → IsOneOf choice (disk_at place (file_names choice))
one_of_place choice zero = inl refl
one_of_place choice (suc zero) = inr (inl refl)
one_of_place choice (suc (suc place)) = inr (inr refl)

-- an error of making three journals
pub of_making : (holds : List ℕ → Option (Option (List ℕ))) (choice : List ℕ) (error : PairError) → RefusesMaking holds choice error → IsOfMaking error
of_making holds choice (error.DiskFault at) is = tt
of_making holds choice (error.NotEmpty at) is = tt
of_making holds choice (error.NotJournal place at) is = is
of_making holds choice (error.OtherSeed place found) is = is
of_making holds choice (error.BadChoice at) is = is
of_making holds choice (error.BadRecord at) is = is
of_making holds choice (error.ChoiceFull len) is = is
of_making holds choice error.Memory is = tt

pub making_cause : (holds : List ℕ → Option (Option (List ℕ))) (choice : List ℕ) (error : PairError) → RefusesMaking holds choice error → HasMakingCause holds choice (making_stop error)
making_cause holds choice (error.DiskFault at) is = tt
making_cause holds choice (error.NotEmpty at) is = (disk_at at (file_names choice), one_of_place choice at, is)
making_cause holds choice (error.NotJournal place at) is = absurd is
making_cause holds choice (error.OtherSeed place found) is = absurd is
making_cause holds choice (error.BadChoice at) is = absurd is
making_cause holds choice (error.BadRecord at) is = absurd is
making_cause holds choice (error.ChoiceFull len) is = absurd is
making_cause holds choice error.Memory is = tt

-- its stop is that of a fault only where it is one
pub making_fault : (error : PairError) → making_stop error ≡ Fault → IsFault error
making_fault (error.DiskFault at) e = tt
making_fault (error.NotEmpty at) e = cc
making_fault (error.NotJournal place at) e = cc
making_fault (error.OtherSeed place found) e = cc
making_fault (error.BadChoice at) e = cc
making_fault (error.BadRecord at) e = cc
making_fault (error.ChoiceFull len) e = cc
making_fault error.Memory e = cc

pub thin_fault : (error : PairError) → thin_stop error ≡ Fault → IsFault error
thin_fault (error.DiskFault at) e = tt
thin_fault (error.NotEmpty at) e = cc
thin_fault (error.NotJournal place at) e = cc
thin_fault (error.OtherSeed place found) e = cc
thin_fault (error.BadChoice at) e = cc
thin_fault (error.BadRecord at) e = cc
thin_fault (error.ChoiceFull len) e = cc
thin_fault error.Memory e = cc

-- a fault that an answer tells is one of the error
pub told_fault : {T C : Type 0} (stop : Stop C) → (let r : Result T (Stop C) = Err stop in r) ≡ Err Fault → stop ≡ Fault
told_fault {T = T} {C = C} stop e = let same : Err stop ≡ Err Fault = e in cc

-- ---- a seed file that was read before

-- three files that weren't opened
still_pair : (holds : Files) (images later : List ℕ → List ℕ → Type 0) → ((n : List ℕ) → Stays (images n) (later n)) → (choice digest : List ℕ) → KeepsPair holds images later choice digest
still_pair holds images later fewer choice digest = record {
  stands = λ allowed s. still_stands (bytes_in holds) images later digest allowed (file_names choice) fewer s;
  settled = λ allowed s some. still_settles (bytes_in holds) images later digest allowed (file_names choice) fewer s;
}

module _ {F : Type 0} (holds : F → Files) (images : F → List ℕ → List ℕ → Type 0) (opened : F → List ℕ → Bool) (may_fail : F → Bool) (faults : F → ℕ)
    (first second last : F) (same : (n : List ℕ) → holds second n ≡ holds first n) (crash : (n : List ℕ) → SameImages (images first n) (images second n)) (same_open : (n : List ℕ) → opened second n ≡ opened first n)
  where
    abbrev Around : F → F → FilesAround
    Around a b = files_around holds images opened may_fail faults a b

    told_same : holds second ≡ holds first
    told_same = λ i n. same n i

    fewer : (n : List ℕ) → Stays (images first n) (images second n)
    fewer n c image = (crash n c).0 image

    unmoved : (n : List ℕ) → IsUnmoved (holds first n) (holds second n) (images first n) (images second n) (opened first n) (opened second n)
    unmoved n = record { told = same n; crash = crash n; opened = same_open n }

    pub others_since : (choice : List ℕ) → PairOthersStay (Around second last) choice → PairOthersStay (Around first last) choice
    others_since choice stay n other = unmoved_then (unmoved n) (stay n other)

    -- only the seed file was read
    pub others_unread : (choice : List ℕ) → PairOthersStay (Around first second) choice
    others_unread choice n other = unmoved n

    pub pair_untouched : (choice : List ℕ) → PairUntouched (Around first second) choice
    pair_untouched choice n one = record { told = same n; crash = crash n }

    pub bytes_unread : (choice : List ℕ) → BytesStay (holds first) (holds second) (images first) (images second) choice
    bytes_unread choice n one byte = (same n, fewer n)

    pub bytes_kept : (choice : List ℕ) → BytesStay (holds second) (holds last) (images second) (images last) choice → BytesStay (holds first) (holds last) (images first) (images last) choice
    bytes_kept choice stay = bytes_since (holds first) (images first) (images second) fewer choice [] (holds last) (images last) (subst (λ h. BytesStay h (holds last) (images second) (images last) choice) told_same stay)

    -- ---- making a pair room

    module _ (room : NewRoomWords) (digest : List ℕ) (seed : (s : Seed) × DigestedIn (holds first room.multidata) s digest) where
      accepted : HasSeed (Around first last) room
      accepted = (seed.0, record { bytes = seed.1.bytes; is_file = seed.1.is_file; is = seed.1.is })

      abbrev LeftBy : Type 0 → Option (List ℕ) → Option (List ℕ) → Stop RoomCause → Type 0
      LeftBy failed old new = HasLeft (HasPairCause (Around first last) room) (Keeps old new) (MakesSomePair (Around first last) room old new) failed

      module _ (held : Option (List ℕ)) (failed : Type 0) where
        left_by : (stop : Stop RoomCause) → HasMakingCause (holds second) room.journal stop → (stop ≡ Fault → failed) → LeftBy failed held held stop
        left_by Fault cause rose = inr (record { accepted = accepted; left = inl (Keeps-refl held) }, rose refl)
        left_by Memory cause rose = inl (Keeps-refl held)
        left_by (Refused (room_cause.SeedFile cause)) never rose = absurd never
        left_by (Refused room_cause.NotEmpty) has rose = ((accepted, subst (λ h. HasMakingCause h room.journal (Refused room_cause.NotEmpty)) told_same has), Keeps-refl held)

        pub making_exit : {T : Type 0} (answer : Result T (Stop RoomCause)) (stop : Stop RoomCause) → HasMakingCause (holds second) room.journal stop → (stop ≡ Fault → failed) → IsErrAnd answer (λ e. e ≡ stop)
            → IfErr answer (LeftBy failed held held)
        making_exit answer stop cause rose is = passed_exit (LeftBy failed held held) answer stop (left_by stop cause rose) is

      module _ (made : IsMadeIn (holds second) (images last) room.journal digest) (old new : Option (List ℕ)) where
        is_pair : IsPairRoom (Around first last) room
        is_pair = record { seed = seed.0; digest = digest; seed_in = seed.1; made = subst (λ h. IsMadeIn h (images last) room.journal digest) told_same made }

        pub pair_done : (answer : Result (Unit {0}) (Stop RoomCause)) → OnOk answer (Appends old new room_text) → OnOk answer (MakesPair (Around first last) room old new)
        pair_done answer put = on_ok_weaker answer (λ p. record { made = is_pair; put = p }) put

        pub pair_left : (failed : Type 0) (answer : Result (Unit {0}) (Stop RoomCause)) → IfErr answer (λ stop. (stop ≡ Fault) ⊎ (stop ≡ Memory)) → OnErr answer (PutsFront old new room_text) → (answer ≡ Err Fault → failed)
            → IfErr answer (LeftBy failed old new)
        pair_left failed answer late front rose =
            left_late (HasPairCause (Around first last) room) (Keeps old new) (MakesSomePair (Around first last) room old new) failed answer late front rose (λ f. record { accepted = accepted; left = inr (is_pair, f) })

    -- ---- thinning it

    module _ (room : ThinWords) (digest : List ℕ) (seed : (s : Seed) × DigestedIn (holds first room.multidata) s digest) where
      pub thinned_in : (kept : Kept) → AreThinned (holds second) (images last) room.choice digest kept → IsThinnedIn (Around first last) room kept
      thinned_in kept t = record { seed = seed.0; digest = digest; seed_in = seed.1; thinned = subst (λ h. AreThinned h (images last) room.choice digest kept) told_same t }

      pub thin_refused : (error : PairError) → RefusesThin (holds second) room.choice digest error → ThinFails (Around first last) room (thin_stop error)
      thin_refused error r = inr record { seed = seed.0; digest = digest; seed_in = seed.1; error = error; is = refl; refused = subst (λ h. RefusesThin h room.choice digest error) told_same r }

      pub thin_keeps : KeepAllowed (holds second) (images second) (images last) room.choice digest → KeepSettled (holds second) (images second) (images last) room.choice digest → ThinKeeps (Around first last) room
      thin_keeps keeps settles bytes other told is =
          let one : seed.1.bytes ≡ bytes = told_bytes (holds first room.multidata) bytes seed.1.bytes told seed.1.is_file in
          subst (λ d. KeepsPair (holds first) (images first) (images last) room.choice d) (seed.1.digested ∙ ap digest_of one) record {
            stands = keep_since (holds first) (images first) (images second) fewer room.choice digest (images last) (subst (λ h. KeepAllowed h (images second) (images last) room.choice digest) told_same keeps);
            settled = settle_since (holds first) (images first) (images second) fewer room.choice digest (images last) (subst (λ h. KeepSettled h (images second) (images last) room.choice digest) told_same settles);
          }

    -- the three files were not opened
    pub unread_keeps : (room : ThinWords) → ThinKeeps (Around first second) room
    unread_keeps room bytes seed told is = still_pair (holds first) (images first) (images second) fewer room.choice (digest_of bytes)

    pub unread_thin : (room : ThinWords) (why : Stop SeedCause) → IsSeedStopped (holds first room.multidata) (may_fail first) why → ThinFails (Around first second) room (stop_with thin_cause.SeedFile why)
    unread_thin room why cause = inl record { seed_stop = why; is = refl; cause = cause; files_stay = λ n. record { told = same n; crash = crash n } }

-- ---- how `thin` is told

pub thin_stopped : (files : FilesAround) (room : ThinWords) (held : Option (List ℕ)) {T : Type 0} (answer : Result T (Stop ThinCause)) (stop : Stop ThinCause) → ThinFails files room stop → IsErrAnd answer (λ e. e ≡ stop)
    → IfErr answer (ThinStopped files room held held)
thin_stopped files room held answer stop fails is = passed_exit (ThinStopped files room held held) answer stop (inl (fails, Keeps-refl held)) is

module _ (files : FilesAround) (room : ThinWords) (kept : Kept) (thinned : IsThinnedIn files room kept) (old new : Option (List ℕ)) where
  pub thin_done : {T : Type 0} (answer : Result T (Stop ThinCause)) → OnOk answer (Appends old new (kept_text kept)) → OnOk answer (ThinDone files room old new)
  thin_done answer put = on_ok_weaker answer (λ p. record { kept = kept; thinned = thinned; put = p }) put

  pub thin_untold : {T : Type 0} (answer : Result T (Stop ThinCause)) → IfErr answer (λ stop. (stop ≡ Fault) ⊎ (stop ≡ Memory)) → OnErr answer (PutsFront old new (kept_text kept)) → IfErr answer (ThinStopped files room old new)
  thin_untold (Ok x) late front = tt
  thin_untold (Err stop) late front = inr record { kept = kept; thinned = thinned; late = late; front = front }

-- how an outcome of any command is told
pub told_as : {T C : Type 0} (status_of : C → ℕ) (line_of : C → List ℕ) (outcome : Result T (Stop C)) (status : ℕ) (told : Told) (done : Type 0) (stopped : Stop C → Type 0) → OnOk outcome (status ≡ 0)
    → OnOk outcome (Keeps told.old told.new) → IfErr outcome (λ s. Ended status_of line_of s status told) → OnOk outcome done → IfErr outcome stopped
    → ((status ≡ 0) × done × Keeps told.old told.new) ⊎ ((s : Stop C) × stopped s × Ended status_of line_of s status told)
told_as status_of line_of (Ok x) status told done stopped none kept ended all left = inl (none, all, kept)
told_as status_of line_of (Err s) status told done stopped none kept ended all left = inr (s, left, ended)

-- ---- memory ran out before a folder or an out sink was touched

module _ {F : Type 0} (holds : F → Files) (images : F → List ℕ → List ℕ → Type 0) (opened : F → List ℕ → Bool) (may_fail : F → Bool) (faults : F → ℕ) (folder : F) (held : Option (List ℕ)) (count : ℕ) (told : Told) (status : ℕ)
    (is_status : status ≡ 6) (line : IsTold told (codes "no memory\n"))
  where
    abbrev Still : FilesAround
    Still = files_around holds images opened may_fail faults folder folder

    abbrev Out : Told
    Out = record { old = held; new = held; before = count; now = count }

    same_images : (n : List ℕ) → SameImages (images folder n) (images folder n)
    same_images n c = (λ image. image, λ image. image)

    still_others : (choice : List ℕ) → PairOthersStay Still choice
    still_others choice n other = record { told = refl; crash = same_images n; opened = refl }

    pub unstarted_room : (room : NewRoomWords) → PairRoomEnds status Still room Out told
    unstarted_room room = record {
      ends = inr (Memory, record { is_status = is_status; left = inl (Keeps-refl held); line = line });
      others = still_others room.journal;
      bytes = λ n one byte. (refl, λ c image. image);
    }

    pub unstarted_thin : (room : ThinWords) → ThinEnds status Still room Out told
    unstarted_thin room = record {
      ends = inr (
        Memory,
        inl (inl record { seed_stop = Memory; is = refl; cause = tt; files_stay = λ n. record { told = refl; crash = same_images n } }, Keeps-refl held),
        record { named = Memory; is = inl refl; is_status = is_status; line = line },
      );
      others = still_others room.choice;
      keeps = λ bytes seed was is. still_pair (holds folder) (images folder) (images folder) (λ n c image. image) room.choice (digest_of bytes);
    }
