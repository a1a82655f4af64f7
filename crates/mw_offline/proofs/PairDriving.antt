-- What the run of a script on a pair room comes to.
use Rattle.std.proofs.Common.{◌≡◌, ◌∙◌, ◌⊎◌, ◌≤◌, ◌<◌, arith, ℕ, List, Bool, true, Option, Some, Result, Ok, Err, codes, is_some, refl, sym, ap, subst, inl, inr}
use Rattle.std.specs.Prelude.{IfErr, OnOk}
use Rattle.std.specs.Io.KnownBytes.{Keeps}
use Rattle.std.proofs.KnownBytes.{Keeps-refl}
use Rattle.mw_disk.specs.Crash.{Stays}
use Rattle.mw_edges.specs.Causes.{Rose}
use Rattle.mw_edges.specs.Files.{open_file}
use Rattle.mw_edges.specs.Folders.{SameImages, opened_bytes}
use Rattle.mw_model.specs.Seed.{Seed}
use Rattle.mw_multidata.specs.Digest.{digest_of}
use Rattle.mw_multidata.specs.SeedOf.{SeedOf}
use Rattle.mw_protocol.specs.Lives.{Step, life_after_all}
use Rattle.mw_keep.specs.Left.{IsLeft}
use Rattle.mw_drive.specs.Ends.{Drives, IsAsRead, IsFound, IsOfJournal, Refuses, StopsWith}
use Rattle.mw_drive.specs.Ends as ends
use Rattle.mw_drive.specs.Left.{KeepsFound}
use Rattle.mw_drive.specs.declared.error.DriveError.{DriveError}
use Rattle.mw_drive.specs.declared.error.DriveError.TheVariants as why
use Rattle.mw_checkpoint.specs.Chosen.{IsChosen}
use Rattle.mw_checkpoint.specs.Pair.{other_of}
use Rattle.mw_checkpoint.specs.declared.error.PairError.{PairError}
use Rattle.mw_checkpoint.specs.declared.error.PairError.TheVariants as error
use Rattle.mw_causes.specs.Ends.{IsTold, Told, stop_with}
use Rattle.mw_causes.specs.PairCauses.{choice_stop, played_stop, seed_cause_of}
use Rattle.mw_causes.specs.SeedFiles.{IsFile, IsSeedStopped}
use Rattle.mw_causes.specs.Tables.{Files}
use Rattle.mw_causes.specs.declared.pair_drive_cause.PairDriveCause.{PairDriveCause}
use Rattle.mw_causes.specs.declared.seed_cause.SeedCause.{SeedCause}
use Rattle.mw_causes.specs.declared.stop.Stop.{Stop}
use Rattle.mw_causes.specs.declared.stop.Stop.TheVariants.{Fault, Memory, Refused}
use Rattle.mw_pair.specs.Choosing.{IsClosedRoom, IsOpenedRoom, IsUnplayed, NamesJournal, PassesRoom, RefusesChoice, StaysSettled}
use Rattle.mw_pair.specs.Folders.{AreShut, IsClosed, IsFault, IsOpened}
use Rattle.mw_pair.specs.Names.{journal_name}
use Rattle.mw_pair.specs.declared.choosing.Chosen.{Chosen}
use Rattle.mw_pair.proofs.Lifted.{tells_closed, tells_made}
use Rattle.mw_pair.proofs.Naming.{all_names, shut_number}
use Rattle.mw_pair.proofs.Since.{room_since, unplayed_since}
use Rattle.mw_pair.proofs.Steps.{closed_opened}
use Rattle.mw_offline.specs.Driving.{JournalKeeps, JournalRead, RunsShort, RunsToEnd, run_of}
use Rattle.mw_offline.specs.FilesAround.{FilesAround, files_around}
use Rattle.mw_offline.specs.PairDriving.{ChoiceStays, IsRefusedChoice, PairDriveDone, PairDriveEnds, PairDriveKeeps, PairDriveStopped, RoomFound, RoomStays, RoomStopped}
use Rattle.mw_offline.specs.PairFiles.{PairLeaves, PairOthersStay, PairUnplayed}
use Rattle.mw_offline.proofs.Driving.{accepted_over, drives_over, found_over, from_ok, opened_same, some_for, stops_over, told_bytes}
use Rattle.mw_offline.proofs.Keeping.{Laws, journal_keeps}

-- ---- errors

pub choice_fault : (error : PairError) → choice_stop error ≡ Fault → IsFault error
choice_fault (error.DiskFault at) e = tt
choice_fault (error.NotEmpty at) e = cc
choice_fault (error.NotJournal place at) e = cc
choice_fault (error.OtherSeed place found) e = cc
choice_fault (error.BadChoice at) e = cc
choice_fault (error.BadRecord at) e = cc
choice_fault (error.ChoiceFull len) e = cc
choice_fault error.Memory e = cc

pub played_fault : (error : DriveError) → played_stop error ≡ Fault → error ≡ why.Fault
played_fault why.Fault e = refl
played_fault why.Memory e = cc
played_fault why.Full e = cc
played_fault (why.Journal refusal) e = cc
played_fault (why.Script line) e = cc

-- an answer that is Err has what such an answer has
from_err : {T E : Type 0} (r : Result T E) (P : E → Type 0) (e : E) → r ≡ Err e → IfErr r P → P e
from_err (Ok x) P e is h = cc
from_err (Err y) P e is h = let same : y ≡ e = cc in subst P same h

-- ---- a room that wasn't opened

module _ {F : Type 0} (holds : F → Files) (images : F → List ℕ → List ℕ → Type 0) (opened : F → List ℕ → Bool) (may_fail : F → Bool) (faults : F → ℕ) where
  abbrev Around : F → F → FilesAround
  Around a b = files_around holds images opened may_fail faults a b

  pub unplayed_leaves : (first last : F) (choice digest : List ℕ) → PairOthersStay (Around first last) choice → PairUnplayed (Around first last) choice digest → PairLeaves (Around first last) choice
  unplayed_leaves first last choice digest others u = record {
    tells = all_names (λ n. is_some (opened_bytes (holds last n)) ≡ is_some (opened_bytes (holds first n))) choice 0 u.tells
        (tells_made (holds first (journal_name choice 0)) (holds last (journal_name choice 0)) (u.journals 0).told)
        (tells_made (holds first (journal_name choice 1)) (holds last (journal_name choice 1)) (u.journals 1).told) (λ n other. ap (λ file. is_some (opened_bytes file)) (others n other).told);
    others = others;
    opened = all_names (λ n. opened last n ≡ opened first n) choice 0 u.opened (u.journals 0).opened (u.journals 1).opened (λ n other. (others n other).opened);
  }

  -- memory was wanting before a file was opened
  pub memory_refused : (folder : F) (choice digest : List ℕ) → IsRefusedChoice (Around folder folder) choice digest Memory
  memory_refused folder choice digest = record {
    error = error.Memory;
    is = refl;
    refused = inl tt;
    unplayed = record {
      settled = λ text body settled. settled;
      tells = refl;
      opened = refl;
      journals = λ number. record { told = inl refl; crash = λ c image. image; opened = refl };
    };
  }

  -- CHOICE names no journal
  pub named_refused : (first last : F) (choice digest : List ℕ) (e : PairError) (stop : Stop PairDriveCause) → stop ≡ choice_stop e → RefusesChoice (holds first) choice digest e → PairUnplayed (Around first last) choice digest
      → IsRefusedChoice (Around first last) choice digest stop
  named_refused first last choice digest e stop is refused unplayed = record { error = e; is = is; refused = refused; unplayed = unplayed }

  module _ (first second last : F) (same : (n : List ℕ) → holds second n ≡ holds first n) (crash : (n : List ℕ) → SameImages (images first n) (images second n)) (same_open : (n : List ℕ) → opened second n ≡ opened first n) where
    told_same : holds second ≡ holds first
    told_same = λ i n. same n i

    open_same : opened second ≡ opened first
    open_same = λ i n. same_open n i

    fewer : (n : List ℕ) → Stays (images first n) (images second n)
    fewer n c image = (crash n c).0 image

    pub shut_since : (choice : List ℕ) → AreShut (opened second) choice → AreShut (opened first) choice
    shut_since choice shut = subst (λ o. AreShut o choice) open_same shut

    pub opened_since : (choice digest : List ℕ) {D : Type 0} (told : D → Option (List ℕ)) (may_leave : D → List ℕ → Type 0) (counts : D → ℕ) (room : Chosen D) → IsOpenedRoom told may_leave counts (holds second) (images second) choice digest room
        → IsOpenedRoom told may_leave counts (holds first) (images first) choice digest room
    opened_since choice digest told may_leave counts room o =
        room_since (holds first) (images first) (images second) fewer choice digest told may_leave counts room (subst (λ h. IsOpenedRoom told may_leave counts h (images second) choice digest room) told_same o)

    unplayed_first : (choice digest : List ℕ) → PairUnplayed (Around second last) choice digest → PairUnplayed (Around first last) choice digest
    unplayed_first choice digest u =
        unplayed_since (holds first) (images first) (images second) fewer choice digest (holds last) (images last) (opened first) (opened last)
        (subst (λ o. IsUnplayed (holds first) (holds last) (images second) (images last) o (opened last) choice digest) open_same
        (subst (λ h. IsUnplayed h (holds last) (images second) (images last) (opened second) (opened last) choice digest) told_same u))

    pub refused_first : (choice digest : List ℕ) (stop : Stop PairDriveCause) → IsRefusedChoice (Around second last) choice digest stop → IsRefusedChoice (Around first last) choice digest stop
    refused_first choice digest stop r =
        record { error = r.error; is = r.is; refused = subst (λ h. RefusesChoice h choice digest r.error) told_same r.refused; unplayed = unplayed_first choice digest r.unplayed }

    -- of a seed that was read
    module _ (multidata choice bytes : List ℕ) (seed : Seed) (is_file : IsFile (holds first multidata) bytes) (is : SeedOf bytes (Ok seed)) (stop : Stop PairDriveCause) (r : IsRefusedChoice (Around second last) choice (digest_of bytes) stop) where
      pub room_refused : RoomStopped (Around first last) multidata choice stop
      room_refused = inr record { bytes = bytes; seed = seed; seed_was = record { is_file = is_file; is = is }; refused = refused_first choice (digest_of bytes) stop r }

      pub refused_leaves : PairOthersStay (Around first last) choice → PairLeaves (Around first last) choice
      refused_leaves others = unplayed_leaves first last choice (digest_of bytes) others (unplayed_first choice (digest_of bytes) r.unplayed)

      pub refused_stays : ChoiceStays (Around first last) multidata choice
      refused_stays read other told other_is =
          let one : bytes ≡ read = told_bytes (holds first multidata) read bytes told is_file in
          subst (λ b. StaysSettled (images first choice) (images last choice) (digest_of b)) one (unplayed_first choice (digest_of bytes) r.unplayed).settled

    -- no file was touched
    pub unread_room : (multidata choice : List ℕ) (why : Stop SeedCause) → IsSeedStopped (holds first multidata) (may_fail first) why → RoomStopped (Around first second) multidata choice (stop_with seed_cause_of why)
    unread_room multidata choice why cause = inl record { seed_stop = why; is = refl; cause = cause; files_stay = λ n. record { told = same n; crash = crash n } }

    pub unread_stays : (multidata choice : List ℕ) → ChoiceStays (Around first second) multidata choice
    unread_stays multidata choice bytes seed told is text body settled c image = settled c (fewer choice c image)

    pub unread_leaves : (choice : List ℕ) → PairLeaves (Around first second) choice
    unread_leaves choice = record {
      tells = λ n. ap (λ file. is_some (opened_bytes file)) (same n);
      others = λ n other. record { told = same n; crash = crash n; opened = same_open n };
      opened = same_open;
    }

  -- no room was found
  pub stopped_stays : (first last : F) (multidata choice : List ℕ) (stop : Stop PairDriveCause) → RoomStopped (Around first last) multidata choice stop → RoomStays (Around first last) multidata choice
  stopped_stays first last multidata choice stop (inl unread) bytes seed told is = record {
    settled = λ text body settled c image. settled c (((unread.files_stay choice).crash c).0 image);
    journals = λ number c image. ((unread.files_stay (journal_name choice number)).crash c).0 image;
  }
  stopped_stays first last multidata choice stop (inr refused) bytes seed told is =
      let one : refused.bytes ≡ bytes = told_bytes (holds first multidata) bytes refused.bytes told refused.seed_was.is_file in
      let unplayed = refused.refused.unplayed in record {
        settled = subst (λ b. StaysSettled (images first choice) (images last choice) (digest_of b)) one unplayed.settled;
        journals = λ number. (unplayed.journals number).crash;
      }

  -- ---- a room that was played

  module _ {D : Type 0} (told : D → Option (List ℕ)) (may_leave : D → List ℕ → Type 0) (counts : D → ℕ) (first last : F) (choice digest : List ℕ) (room : Chosen D) (o : IsOpenedRoom told may_leave counts (holds first) (images first) choice digest room)
      (shut : AreShut (opened first) choice) (j : D)
      (k : IsClosedRoom told may_leave (holds last) (images last) (opened last) choice (record { choice = room.choice; journal = j; other = room.other; named = room.named }))
    where
      abbrev name : List ℕ
      name = journal_name choice room.named

      settled : StaysSettled (images first choice) (images last choice) digest
      settled text body s c image = o.settled text body s c ((k.own.left c).0 image)

      chosen : IsChosen (images last) digest room.named choice
      chosen = record { text = o.chosen.text; place = o.chosen.place; shut = λ c image. o.chosen.shut c ((k.own.left c).0 image); choices = o.chosen.choices; last = o.chosen.last }

      pub room_found : (multidata bytes : List ℕ) (seed : Seed) → IsFile (holds first multidata) bytes → SeedOf bytes (Ok seed) → digest ≡ digest_of bytes → RoomFound (Around first last) multidata choice bytes seed room.named
      room_found multidata bytes seed is_file is of = record {
        seed_was = record { is_file = is_file; is = is };
        names = subst (λ d. NamesJournal (opened_bytes (holds first choice)) (images first choice) d room.named) of o.names;
        settled = subst (λ d. StaysSettled (images first choice) (images last choice) d) of settled;
        chosen = subst (λ d. IsChosen (images last) d room.named choice) of chosen;
        other = closed_opened told may_leave counts room.other o.other (shut_number (opened first) choice shut (other_of room.named)) k.other;
      }

      pub room_stays : (multidata bytes : List ℕ) → IsFile (holds first multidata) bytes → digest ≡ digest_of bytes → ChoiceStays (Around first last) multidata choice
      room_stays multidata bytes is_file of read seed told_read is =
          let one : bytes ≡ read = told_bytes (holds first multidata) read bytes told_read is_file in
          subst (λ d. StaysSettled (images first choice) (images last choice) d) (of ∙ ap digest_of one) settled

      pub room_leaves : PairOthersStay (Around first last) choice → is_some (told j) ≡ is_some (told room.journal) → PairLeaves (Around first last) choice
      room_leaves others tells = record {
        tells = all_names (λ n. is_some (opened_bytes (holds last n)) ≡ is_some (opened_bytes (holds first n))) choice room.named
            (tells_closed (told room.choice) (holds last choice) k.own.tells ∙ o.tells)
            (tells_closed (told j) (holds last name) k.journal.tells ∙ tells ∙ ap is_some o.journal.tells)
            (tells_closed (told room.other) (holds last (journal_name choice (other_of room.named))) k.other.tells ∙ ap is_some o.other.tells)
            (λ n other. ap (λ file. is_some (opened_bytes file)) (others n other).told);
        others = others;
        opened = all_names (λ n. opened last n ≡ opened first n) choice room.named (k.own.shut ∙ sym shut.choice_shut)
            (k.journal.shut ∙ sym (shut_number (opened first) choice shut room.named)) (k.other.shut ∙ sym (shut_number (opened first) choice shut (other_of room.named)))
            (λ n other. (others n other).opened);
      }

      module _ (bytes : List ℕ) (seed : Seed) (old new : Option (List ℕ)) where
        pub room_runs : {S : Type 0} (source : S → Option (List ℕ)) (before after : S)
            → Drives (IsFound (told room.journal) (may_leave room.journal) (digest_of bytes) seed) (told room.journal) (may_leave j) (digest_of bytes) seed (source before) (source after) old new
            → RunsToEnd source (Around first last) (Some name) (run_of bytes seed before after old new)
        room_runs source before after d =
            drives_over (told room.journal) (opened_bytes (holds first name)) o.journal.tells (may_leave room.journal) (images first name) o.journal.left (may_leave j) (images last name) (λ x. (k.journal.left x).0)
            (digest_of bytes) seed old new (source before) (source after) d

        pub room_keeps : Laws
            → (is_some (told room.journal) ≡ true
            → KeepsFound (IsFound (told room.journal) (may_leave room.journal) (digest_of bytes) seed) (ends.StaysSettled (may_leave room.journal) (may_leave j) (digest_of bytes)) (may_leave j) (digest_of bytes) seed old new)
            → JournalKeeps (Around first last) (Some name) (digest_of bytes) seed old new
        room_keeps laws keeps = journal_keeps laws (Around first last) (digest_of bytes) seed old new (Some name) (λ some.
            found_over (told room.journal) (opened_bytes (holds first name)) o.journal.tells (may_leave room.journal) (images first name) o.journal.left (may_leave j) (images last name) (λ x. (k.journal.left x).0)
            (digest_of bytes) seed old new (keeps (some_for (told room.journal) (opened_bytes (holds first name)) o.journal.tells (digest_of bytes) seed some)))

        pub room_short : {S : Type 0} (source : S → Option (List ℕ)) (before after : S) (e : DriveError)
            → StopsWith source (IsFound (told room.journal) (may_leave room.journal) (digest_of bytes) seed) (Refuses (told room.journal) (digest_of bytes) seed) (ends.StaysSettled (may_leave room.journal) (may_leave j) (digest_of bytes))
            (IsAsRead (told room.journal) (told j) (may_leave room.journal) (may_leave j)) (told room.journal) (may_leave j) (digest_of bytes) seed before after old new e
            → ((steps : List Step) → is_some (told room.journal) ≡ true → IsLeft (may_leave room.journal) (digest_of bytes) (life_after_all seed steps) → IsOfJournal e → ⊥)
            → RunsShort source (Around first last) (Some name) (run_of bytes seed before after old new) e
        room_short source before after e stops accepted = record {
          stops = stops_over (told room.journal) (opened_bytes (holds first name)) o.journal.tells (may_leave room.journal) (images first name) o.journal.left (may_leave j) (images last name) (λ x. (k.journal.left x).0)
              (digest_of bytes) seed old new e source before after (IsAsRead (told room.journal) (told j) (may_leave room.journal) (may_leave j)) (JournalRead (Around first last) (Some name))
              (λ read. (
                opened_same (holds first name) (holds last name) (k.journal.tells ∙ ap open_file (read.0 ∙ o.journal.tells)),
                λ x image. o.journal.left x (read.1 x ((k.journal.left x).0 image)),
              )) stops;
          accepted = accepted_over (told room.journal) (opened_bytes (holds first name)) o.journal.tells (may_leave room.journal) (images first name) o.journal.left (may_leave j) (images last name) (λ x. (k.journal.left x).0)
              (digest_of bytes) seed old new e accepted;
        }

      pub room_fault : (old new : ℕ) → PassesRoom counts (record { choice = room.choice; journal = j; other = room.other; named = room.named }) old new → counts room.journal < counts j → Rose old new
      room_fault old new p rose = p.journal (omega (arith, rose))

  -- ---- the command, on a room whose disks were handed back

  module _ {D : Type 0} (told : D → Option (List ℕ)) (may_leave : D → List ℕ → Type 0) (counts : D → ℕ) (first last : F) (multidata choice bytes : List ℕ) (seed : Seed) (is_file : IsFile (holds first multidata) bytes) (is : SeedOf bytes (Ok seed))
      (room : Chosen D) (o : IsOpenedRoom told may_leave counts (holds first) (images first) choice (digest_of bytes) room) (shut : AreShut (opened first) choice) (back : Chosen D)
      (same : back ≡ record { choice = room.choice; journal = back.journal; other = room.other; named = room.named }) (k : IsClosedRoom told may_leave (holds last) (images last) (opened last) choice back)
    where
      closed : IsClosedRoom told may_leave (holds last) (images last) (opened last) choice (record { choice = room.choice; journal = back.journal; other = room.other; named = room.named })
      closed = subst (IsClosedRoom told may_leave (holds last) (images last) (opened last) choice) same k

      found : RoomFound (Around first last) multidata choice bytes seed room.named
      found = room_found told may_leave counts first last choice (digest_of bytes) room o shut back.journal closed multidata bytes seed is_file is refl

      pub play_stays : ChoiceStays (Around first last) multidata choice
      play_stays = room_stays told may_leave counts first last choice (digest_of bytes) room o shut back.journal closed multidata bytes is_file refl

      pub play_leaves : PairOthersStay (Around first last) choice → is_some (told back.journal) ≡ is_some (told room.journal) → PairLeaves (Around first last) choice
      play_leaves others tells = room_leaves told may_leave counts first last choice (digest_of bytes) room o shut back.journal closed others tells

      pub play_fault : (before after : ℕ) → PassesRoom counts back before after → counts room.journal < counts back.journal → Rose before after
      play_fault before after p rose = p.journal (omega (arith, rose))

      module _ (old new : Option (List ℕ)) where
        pub play_keeps : Laws
            → (is_some (told room.journal) ≡ true
            → KeepsFound (IsFound (told room.journal) (may_leave room.journal) (digest_of bytes) seed) (ends.StaysSettled (may_leave room.journal) (may_leave back.journal) (digest_of bytes)) (may_leave back.journal) (digest_of bytes) seed old new)
            → PairDriveKeeps (Around first last) multidata choice old new
        play_keeps laws keeps = inr record {
          bytes = bytes;
          seed = seed;
          number = room.named;
          found = found;
          kept = room_keeps told may_leave counts first last choice (digest_of bytes) room o shut back.journal closed bytes seed old new laws keeps;
        }

        module _ {S : Type 0} (source : S → Option (List ℕ)) (before after : S) (outcome : Result (Unit {0}) DriveError) where
          pub play_done : (u : Unit {0}) → outcome ≡ Ok u
              → OnOk outcome (Drives (IsFound (told room.journal) (may_leave room.journal) (digest_of bytes) seed) (told room.journal) (may_leave back.journal) (digest_of bytes) seed (source before) (source after) old new)
              → PairDriveDone source (Around first last) multidata choice before after old new
          play_done u done d = record {
            bytes = bytes;
            seed = seed;
            number = room.named;
            found = found;
            runs = room_runs told may_leave counts first last choice (digest_of bytes) room o shut back.journal closed bytes seed old new source before after (from_ok outcome _ u done d);
          }

          pub play_stopped : (e : DriveError) → outcome ≡ Err e → (stop : Stop PairDriveCause) → stop ≡ played_stop e
              → IfErr outcome (StopsWith source (IsFound (told room.journal) (may_leave room.journal) (digest_of bytes) seed) (Refuses (told room.journal) (digest_of bytes) seed) (ends.StaysSettled (may_leave room.journal) (may_leave back.journal) (digest_of bytes))
              (IsAsRead (told room.journal) (told back.journal) (may_leave room.journal) (may_leave back.journal)) (told room.journal) (may_leave back.journal) (digest_of bytes) seed before after old new)
              → IfErr outcome (λ error. (steps : List Step) → is_some (told room.journal) ≡ true → IsLeft (may_leave room.journal) (digest_of bytes) (life_after_all seed steps) → IsOfJournal error → ⊥)
              → PairDriveStopped source (Around first last) multidata choice before after old new stop
          play_stopped e failed stop of stops accepted = inr record {
            bytes = bytes;
            seed = seed;
            number = room.named;
            found = found;
            why = e;
            is = of;
            short = room_short told may_leave counts first last choice (digest_of bytes) room o shut back.journal closed bytes seed old new source before after e (from_err outcome _ e failed stops) (from_err outcome _ e failed accepted);
          }

  -- ---- memory ran out before a folder, an input or an out sink was touched

  pub unstarted_pair : {S : Type 0} (source : S → Option (List ℕ)) (folder : F) (multidata choice : List ℕ) (input : S) (held : Option (List ℕ)) (count : ℕ) (told : Told) (status : ℕ) → status ≡ 6 → IsTold told (codes "no memory\n")
      → PairDriveEnds source status (Around folder folder) multidata choice input input (record { old = held; new = held; before = count; now = count }) told
  unstarted_pair source folder multidata choice input held count told status is_status line =
      let still : (n : List ℕ) → SameImages (images folder n) (images folder n) = λ n c. (λ image. image, λ image. image) in
      record {
        ends = inr (
          Memory,
          inl record {
            stopped = inl record { seed_stop = Memory; is = refl; cause = tt; files_stay = λ n. record { told = refl; crash = still n } };
            untouched = refl;
            quiet = Keeps-refl held;
          },
          record { named = Memory; is = inl refl; is_status = is_status; line = line },
        );
        leaves = record {
          tells = λ n. refl;
          others = λ n other. record { told = refl; crash = still n; opened = refl };
          opened = λ n. refl;
        };
        stays = λ bytes seed was is text body settled. settled;
        kept = inl (Keeps-refl held, λ bytes seed was is. record { settled = λ text body settled. settled; journals = λ number c image. image });
      }
