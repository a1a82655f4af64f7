-- What serving a pair room comes to.
use Rattle.std.proofs.Common.{◌≡◌, ◌⊎◌, ◌∙◌, ◌<◌, ℕ, List, [], Option, Some, Result, Ok, Err, Bool, true, arith, codes, is_some, refl, sym, ap, subst, inl, inr}
use Rattle.std.proofs.KnownBytes.{Keeps-refl}
use Rattle.std.specs.Prelude.{IfErr, IfOk, OnOk, is_ok}
use Rattle.mw_edges.specs.Causes.{Rose}
use Rattle.mw_edges.specs.Files.{open_file}
use Rattle.mw_edges.specs.Folders.{SameImages, opened_bytes}
use Rattle.mw_model.specs.Seed.{Seed}
use Rattle.mw_multidata.specs.Digest.{digest_of}
use Rattle.mw_multidata.specs.SeedOf.{SeedOf}
use Rattle.mw_link.specs.declared.link.Heard.{Heard}
use Rattle.mw_session.specs.Rooms.{count_all}
use Rattle.mw_session.specs.declared.served.Served.{Served}
use Rattle.mw_drive.specs.Ends.{IsAsRead, IsFound, Refuses}
use Rattle.mw_drive.specs.Ends as ends
use Rattle.mw_drive.specs.declared.error.DriveError.{DriveError}
use Rattle.mw_causes.specs.Ends.{Ended, IsTold, Told, stop_status}
use Rattle.mw_causes.specs.PairCauses.{pair_drive_line, pair_drive_status}
use Rattle.mw_causes.specs.SeedFiles.{IsFile}
use Rattle.mw_causes.specs.Tables.{Files}
use Rattle.mw_causes.specs.declared.drive_cause.DriveCause.{DriveCause}
use Rattle.mw_causes.specs.declared.drive_cause.DriveCause.TheVariants as cause
use Rattle.mw_causes.specs.declared.pair_drive_cause.PairDriveCause.{PairDriveCause}
use Rattle.mw_causes.specs.declared.pair_drive_cause.PairDriveCause.TheVariants.{Drive, Choice}
use Rattle.mw_causes.specs.declared.stop.Stop.{Stop}
use Rattle.mw_causes.specs.declared.stop.Stop.TheVariants as stop
use Rattle.mw_pair.specs.Choosing.{IsClosedRoom, IsOpenedRoom, PassesRoom}
use Rattle.mw_pair.specs.Folders.{AreShut}
use Rattle.mw_pair.specs.Names.{journal_name}
use Rattle.mw_pair.specs.declared.choosing.Chosen.{Chosen}
use Rattle.mw_offline.specs.Driving.{JournalRead}
use Rattle.mw_offline.specs.FilesAround.{FilesAround, files_around}
use Rattle.mw_offline.specs.PairDriving.{ChoiceStays, RoomFound}
use Rattle.mw_offline.specs.PairFiles.{PairLeaves, PairOthersStay}
use Rattle.mw_offline.proofs.Driving.{opened_same}
use Rattle.mw_offline.proofs.Keeping.{Laws}
use Rattle.mw_offline.proofs.PairDriving.{room_found, room_leaves, room_stays}
use Rattle.mw_words.specs.declared.command_line.ServeWords.{ServeWords}
use Rattle.mw_serve.specs.Hosted.{Finds, HostsShort, HostsToEnd, IsUnserved}
use Rattle.mw_serve.specs.PairServing.{PairFinishes, PairJournalFound, PairServeDone, PairServeEnds, PairServeKeeps, PairServeStopped, hosting, passed_on}
use Rattle.mw_serve.specs.Sent.{SendsFound}
use Rattle.mw_serve.specs.Serving.{FileHostsShort, FileHostsToEnd, ServeDone, ServeStopped}
use Rattle.mw_serve.proofs.Files.{finds_over, finishes_all, finishes_err, if_err_over, if_ok_over, read_serves, sent_over, serve_done, short_over, to_end_over}

-- ---- at the end

-- all is done only where all links were served
pub pair_finishes_all : (outcome : Result ℕ DriveError) (old new : Option (List ℕ)) (result : Result (Unit {0}) (Stop PairDriveCause)) → PairFinishes outcome old new result → is_ok result ≡ true → is_ok outcome ≡ true
pair_finishes_all outcome old new result (answer, f, is) done = finishes_all outcome old new answer f (by answer (sym (ap is_ok is) ∙ done))
  where
    by : (r : Result (Unit {0}) (Stop DriveCause)) → is_ok (passed_on r) ≡ true → is_ok r ≡ true
    by (Ok u) e = refl
    by (Err s) e = cc

pair_stop_some : (s : Stop PairDriveCause) → stop_status pair_drive_status s ≡ 0 → ⊥
pair_stop_some stop.Fault h = cc
pair_stop_some stop.Memory h = cc
pair_stop_some (stop.Refused (Drive (cause.SeedFile c))) h = cc
pair_stop_some (stop.Refused (Drive (cause.Journal refusal))) h = cc
pair_stop_some (stop.Refused (Drive (cause.Script line))) h = cc
pair_stop_some (stop.Refused (Drive cause.Full)) h = cc
pair_stop_some (stop.Refused (Choice refusal)) h = cc

pub pair_zero_is_ok : {T : Type 0} (outcome : Result T (Stop PairDriveCause)) (status : ℕ) (told : Told) → IfErr outcome (λ s. Ended pair_drive_status pair_drive_line s status told) → status ≡ 0 → is_ok outcome ≡ true
pair_zero_is_ok (Ok x) status told ended none = refl
pair_zero_is_ok (Err s) status told ended none = absurd (pair_stop_some ended.named (sym ended.is_status ∙ none))

-- ---- a room that was served

module _ {T D : Type 0} (heard_by : T → List Heard) (sent_by : T → List (List ℕ)) (line_faults : T → ℕ) (opened_at : T → ℕ) (is_shut : T → Bool)
    (told : D → Option (List ℕ)) (may_leave : D → List ℕ → Type 0) (counts : D → ℕ)
    {F : Type 0} (holds : F → Files) (images : F → List ℕ → List ℕ → Type 0) (opened : F → List ℕ → Bool) (may_fail : F → Bool) (faults : F → ℕ) (first last : F)
    (named : ServeWords) (bytes : List ℕ) (seed : Seed) (is_file : IsFile (holds first named.multidata) bytes) (is : SeedOf bytes (Ok seed))
    (room : Chosen D) (o : IsOpenedRoom told may_leave counts (holds first) (images first) named.journal (digest_of bytes) room) (shut : AreShut (opened first) named.journal) (j : D)
    (k : IsClosedRoom told may_leave (holds last) (images last) (opened last) named.journal (record { choice = room.choice; journal = j; other = room.other; named = room.named }))
    (served : List (List (Served T)))
  where
    abbrev Around : FilesAround
    Around = files_around holds images opened may_fail faults first last

    abbrev Name : List ℕ
    Name = journal_name named.journal room.named

    abbrev Words : ServeWords
    Words = hosting named room.named

    found : RoomFound Around named.multidata named.journal bytes seed room.named
    found = room_found holds images opened may_fail faults told may_leave counts first last named.journal (digest_of bytes) room o shut j k named.multidata bytes seed is_file is refl

    pub pair_stays : ChoiceStays Around named.multidata named.journal
    pair_stays = room_stays holds images opened may_fail faults told may_leave counts first last named.journal (digest_of bytes) room o shut j k named.multidata bytes is_file refl

    pub pair_leaves : PairOthersStay Around named.journal → is_some (told j) ≡ is_some (told room.journal) → PairLeaves Around named.journal
    pair_leaves others tells = room_leaves holds images opened may_fail faults told may_leave counts first last named.journal (digest_of bytes) room o shut j k others tells

    pub pair_fault : (before after : ℕ) → PassesRoom counts (record { choice = room.choice; journal = j; other = room.other; named = room.named }) before after → counts room.journal < counts j → Rose before after
    pair_fault before after p rose = p.journal (omega (arith, rose))

    abbrev Hosts : Type 0
    Hosts = HostsToEnd heard_by sent_by line_faults opened_at is_shut may_leave (IsFound (told room.journal) (may_leave room.journal) (digest_of bytes) seed) (may_leave j) (digest_of bytes) seed served

    abbrev Short : DriveError → Type 0
    Short error =
        IsUnserved (Refuses (told room.journal) (digest_of bytes) seed) (ends.StaysSettled (may_leave room.journal) (may_leave j) (digest_of bytes)) (IsAsRead (told room.journal) (told j) (may_leave room.journal) (may_leave j)) served error
        ⊎ HostsShort heard_by sent_by line_faults opened_at is_shut may_leave (IsFound (told room.journal) (may_leave room.journal) (digest_of bytes) seed) (may_leave j) (digest_of bytes) seed served error

    to_end : Hosts → FileHostsToEnd heard_by sent_by line_faults opened_at is_shut may_leave Around Name bytes seed served
    to_end h =
        to_end_over heard_by sent_by line_faults opened_at is_shut may_leave (told room.journal) (opened_bytes (holds first Name)) o.journal.tells (may_leave room.journal) (images first Name) o.journal.left
        (may_leave j) (images last Name) (λ x. (k.journal.left x).0) (digest_of bytes) seed served h

    short : (error : DriveError) → Short error → FileHostsShort heard_by sent_by line_faults opened_at is_shut may_leave Around Name bytes seed served error
    short error s =
        short_over heard_by sent_by line_faults opened_at is_shut may_leave (told room.journal) (opened_bytes (holds first Name)) o.journal.tells (may_leave room.journal) (images first Name) o.journal.left
        (may_leave j) (images last Name) (λ x. (k.journal.left x).0) (digest_of bytes) seed served error (IsAsRead (told room.journal) (told j) (may_leave room.journal) (may_leave j)) (JournalRead Around (Some Name))
        (λ read. (
          opened_same (holds first Name) (holds last Name) (k.journal.tells ∙ ap open_file (read.0 ∙ o.journal.tells)),
          λ x image. o.journal.left x (read.1 x ((k.journal.left x).0 image)),
        )) s

    pub pair_kept : Laws → SendsFound sent_by (IsFound (told room.journal) (may_leave room.journal) (digest_of bytes) seed) (ends.StaysSettled (may_leave room.journal) (may_leave j) (digest_of bytes)) (may_leave j) (digest_of bytes) seed served
        → PairServeKeeps heard_by sent_by line_faults opened_at is_shut may_leave Around named served
    pair_kept laws sends = inr record {
      bytes = bytes;
      seed = seed;
      number = room.named;
      found = found;
      kept = read_serves sent_by laws Around Words bytes seed served is_file is
          (sent_over heard_by sent_by line_faults opened_at is_shut may_leave (told room.journal) (opened_bytes (holds first Name)) o.journal.tells (may_leave room.journal) (images first Name) o.journal.left
          (may_leave j) (images last Name) (λ x. (k.journal.left x).0) (digest_of bytes) seed served sends);
    }

    pub pair_found : Finds (IsFound (told room.journal) (may_leave room.journal) (digest_of bytes) seed) → PairJournalFound Around named
    pair_found finds = record {
      bytes = bytes;
      seed = seed;
      number = room.named;
      found = found;
      finds = finds_over (told room.journal) (opened_bytes (holds first Name)) o.journal.tells (digest_of bytes) seed (may_leave room.journal) (images first Name) o.journal.left finds;
    }

    module _ (old new : Option (List ℕ)) (outcome : Result ℕ DriveError) (result : Result (Unit {0}) (Stop PairDriveCause)) (f : PairFinishes outcome old new result) (done : IfOk outcome (λ n. (n ≡ count_all served) × Hosts)) where
      file_done : IfOk outcome (λ n. (n ≡ count_all served) × FileHostsToEnd heard_by sent_by line_faults opened_at is_shut may_leave Around Name bytes seed served)
      file_done = if_ok_over outcome done (λ n d. (d.0, to_end d.1))

      pub pair_done : OnOk result (PairServeDone heard_by sent_by line_faults opened_at is_shut may_leave Around named served old new)
      pair_done =
          subst (λ r. OnOk r (PairServeDone heard_by sent_by line_faults opened_at is_shut may_leave Around named served old new)) (sym f.2)
          (by f.0 (serve_done heard_by sent_by line_faults opened_at is_shut may_leave Around Words served old new bytes seed (record { is_file = is_file; is = is }) outcome f.0 f.1 file_done))
        where
          by : (r : Result (Unit {0}) (Stop DriveCause)) → OnOk r (ServeDone heard_by sent_by line_faults opened_at is_shut may_leave Around Words served old new)
              → OnOk (passed_on r) (PairServeDone heard_by sent_by line_faults opened_at is_shut may_leave Around named served old new)
          by (Ok u) d = record { bytes = bytes; seed = seed; number = room.named; found = found; serves = d }
          by (Err s) d = tt

      pub pair_stopped : IfErr outcome Short → IfErr result (PairServeStopped heard_by sent_by line_faults opened_at is_shut may_leave Around named served old new)
      pair_stopped shorts =
          subst (λ r. IfErr r (PairServeStopped heard_by sent_by line_faults opened_at is_shut may_leave Around named served old new)) (sym f.2)
          (by f.0 (finishes_err outcome old new f.0 (count_all served) (FileHostsToEnd heard_by sent_by line_faults opened_at is_shut may_leave Around Name bytes seed served)
          (FileHostsShort heard_by sent_by line_faults opened_at is_shut may_leave Around Name bytes seed served) (ServeStopped heard_by sent_by line_faults opened_at is_shut may_leave Around Words served old new) f.1 file_done
          (if_err_over outcome shorts short)
          (λ error s of kept shorted. record { bytes = bytes; seed = seed; seed_was = record { is_file = is_file; is = is }; why = inl (error, of, kept, shorted) })
          (λ hosts s of front. record { bytes = bytes; seed = seed; seed_was = record { is_file = is_file; is = is }; why = inr (hosts, of, front) })))
        where
          by : (r : Result (Unit {0}) (Stop DriveCause)) → IfErr r (ServeStopped heard_by sent_by line_faults opened_at is_shut may_leave Around Words served old new)
              → IfErr (passed_on r) (PairServeStopped heard_by sent_by line_faults opened_at is_shut may_leave Around named served old new)
          by (Ok u) d = tt
          by (Err s) d = inr record { bytes = bytes; seed = seed; number = room.named; found = found; served_stop = s; is = refl; short = d }

-- ---- memory ran out before a folder, a gate or an out sink was touched

module _ {T D : Type 0} (heard_by : T → List Heard) (sent_by : T → List (List ℕ)) (line_faults : T → ℕ) (opened_at : T → ℕ) (is_shut : T → Bool) (may_leave : D → List ℕ → Type 0)
    {F : Type 0} (holds : F → Files) (images : F → List ℕ → List ℕ → Type 0) (opened : F → List ℕ → Bool) (may_fail : F → Bool) (faults : F → ℕ)
  where
    pub unstarted_pair_serve : (folder : F) (named : ServeWords) (held : Option (List ℕ)) (count : ℕ) (told : Told) (status : ℕ) (served : List (List (Served T))) → served ≡ [] → status ≡ 6 → IsTold told (codes "no memory\n")
        → PairServeEnds heard_by sent_by line_faults opened_at is_shut may_leave status (files_around holds images opened may_fail faults folder folder) named served (record { old = held; new = held; before = count; now = count }) told
    unstarted_pair_serve folder named held count told status served none is_status line =
        let still : (n : List ℕ) → SameImages (images folder n) (images folder n) = λ n c. (λ image. image, λ image. image) in
        record {
          ends = inr (
            stop.Memory,
            inl record {
              stopped = inl record { seed_stop = stop.Memory; is = refl; cause = tt; files_stay = λ n. record { told = refl; crash = still n } };
              none = none;
              quiet = Keeps-refl held;
            },
            record { named = stop.Memory; is = inl refl; is_status = is_status; line = line },
          );
          leaves = record {
            tells = λ n. refl;
            others = λ n other. record { told = refl; crash = still n; opened = refl };
            opened = λ n. refl;
          };
          stays = λ bytes seed was is text body settled. settled;
          kept = inl (none, λ bytes seed was is. record { settled = λ text body settled. settled; journals = λ number c image. image });
        }
