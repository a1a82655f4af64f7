-- What was served over links on a disk, for the file of which it is the disk.
use Rattle.std.proofs.Common.{◌≡◌, ◌⊎◌, ◌∙◌, ℕ, List, [], Option, Some, Result, Ok, Err, Bool, true, false, true≢false, refl, sym, ap, subst, inl, inr}
use Rattle.std.specs.Io.KnownBytes.{Appends, Keeps}
use Rattle.std.specs.Prelude.{IfErr, IfOk, OnOk, is_ok}
use Rattle.mw_edges.specs.Causes.{PutsFront}
use Rattle.mw_edges.specs.Folders.{SameImages, StaysOrIsMade, opened_bytes}
use Rattle.mw_model.specs.Seed.{Seed}
use Rattle.mw_multidata.specs.Digest.{digest_of}
use Rattle.mw_multidata.specs.SeedOf.{SeedOf}
use Rattle.mw_protocol.specs.Lives.{after_all, new_life}
use Rattle.mw_causes.specs.DriveCauses.{drive_line, drive_status, drive_stop}
use Rattle.mw_causes.specs.Ends.{Ended, Told, stop_status}
use Rattle.mw_causes.specs.SeedFiles.{IsFile}
use Rattle.mw_causes.specs.Tables.{Files}
use Rattle.mw_causes.specs.declared.drive_cause.DriveCause.{DriveCause}
use Rattle.mw_causes.specs.declared.drive_cause.DriveCause.TheVariants as cause
use Rattle.mw_causes.specs.declared.stop.Stop.{Stop}
use Rattle.mw_causes.specs.declared.stop.Stop.TheVariants as stop
use Rattle.mw_link.specs.declared.link.Heard.{Heard}
use Rattle.mw_keep.specs.Standing.{lived}
use Rattle.mw_keep.specs.declared.reply.StopCause.{StopCause}
use Rattle.mw_keep.proofs.OneSeed.{one_seed}
use Rattle.mw_session.specs.Rooms.{count_all}
use Rattle.mw_session.specs.declared.served.Served.{Served}
use Rattle.mw_drive.specs.Ends.{IsForeign, IsFound, Refuses, StaysSettled}
use Rattle.mw_drive.specs.declared.error.DriveError.{DriveError}
use Rattle.mw_drive.specs.declared.error.DriveError.TheVariants.{Fault, Memory, Journal}
use Rattle.mw_drive.specs.declared.error.JournalRefusal.{JournalRefusal}
use Rattle.mw_offline.specs.Driving.{JournalRead, SeedWas}
use Rattle.mw_offline.specs.FilesAround.{FilesAround, files_around}
use Rattle.mw_offline.proofs.Driving.{fewer_left, found_for, refuses_for, stays_for, told_bytes}
use Rattle.mw_offline.proofs.Keeping.{Laws}
use Rattle.mw_words.specs.declared.command_line.ServeWords.{ServeWords}
use Rattle.mw_serve.specs.Hosted.{Finds, HostsShort, HostsToEnd, IsHosted, IsUnserved}
use Rattle.mw_serve.specs.Sent.{SendsFound}
use Rattle.mw_serve.specs.Serving.{FileHostsShort, FileHostsToEnd, Finishes, SeedStopped, SentKeeps, ServeDone, ServeStopped, sessions_line}
use Rattle.mw_serve.proofs.Sending.{sent_keeps}

-- ---- one disk, of which less is said

unserved_for : {A : Type 0} (refuses refused : JournalRefusal → Type 0) (settled still read seen : Type 0) → ((r : JournalRefusal) → refuses r → refused r) → (settled → still) → (read → seen) → (served : List A) (error : DriveError)
    → IsUnserved refuses settled read served error → IsUnserved refused still seen served error
unserved_for refuses refused settled still read seen refusing stays reads served error u =
    record { none = u.none; as_settled = stays u.as_settled; read = λ foreign. reads (u.read foreign); cause = cause_for u.cause }
  where
    cause_for : (error ≡ Fault) ⊎ (error ≡ Memory) ⊎ ((refusal : JournalRefusal) × (error ≡ Journal refusal) × refuses refusal)
        → (error ≡ Fault) ⊎ (error ≡ Memory) ⊎ ((refusal : JournalRefusal) × (error ≡ Journal refusal) × refused refusal)
    cause_for (inl fault) = inl fault
    cause_for (inr (inl memory)) = inr (inl memory)
    cause_for (inr (inr (refusal, is, why))) = inr (inr (refusal, is, refusing refusal why))

module _ {T D : Type 0} (heard_by : T → List Heard) (sent_by : T → List (List ℕ)) (line_faults : T → ℕ) (opened_at : T → ℕ) (is_shut : T → Bool) (may_leave : D → List ℕ → Type 0)
    (told shown : Option (List ℕ)) (same : told ≡ shown) (images might : List ℕ → Type 0) (fewer : (c : List ℕ) → images c → might c)
    (left later : List ℕ → Type 0) (less : (c : List ℕ) → later c → left c) (digest : List ℕ) (seed : Seed) (served : List (List (Served T)))
  where
    hosted_over : (memory : Bool) (stopped : Option StopCause)
        → IsHosted heard_by sent_by line_faults opened_at is_shut may_leave (IsFound told images digest seed) left digest seed served memory stopped
        → IsHosted heard_by sent_by line_faults opened_at is_shut may_leave (IsFound shown might digest seed) later digest seed served memory stopped
    hosted_over memory stopped h = record {
      journal = h.journal;
      place = h.place;
      is_found = found_for told shown same digest seed images might fewer h.journal h.place h.is_found;
      origin = h.origin;
      began = h.began;
      log = h.log;
      lucks = h.lucks;
      replied = h.replied;
      history = h.history;
      settled = fewer_left left later less digest (lived (new_life seed h.journal h.place) h.log h.lucks) h.settled;
    }

    pub to_end_over : HostsToEnd heard_by sent_by line_faults opened_at is_shut may_leave (IsFound told images digest seed) left digest seed served
        → HostsToEnd heard_by sent_by line_faults opened_at is_shut may_leave (IsFound shown might digest seed) later digest seed served
    unfolding hosted_over
    to_end_over h = record { hosted = hosted_over _ _ h.hosted; stands = λ c image. h.stands c (less c image) }

    pub short_over : (error : DriveError) (read seen : Type 0) → (read → seen)
        → IsUnserved (Refuses told digest seed) (StaysSettled images left digest) read served error
        ⊎ HostsShort heard_by sent_by line_faults opened_at is_shut may_leave (IsFound told images digest seed) left digest seed served error
        → IsUnserved (Refuses shown digest seed) (StaysSettled might later digest) seen served error
        ⊎ HostsShort heard_by sent_by line_faults opened_at is_shut may_leave (IsFound shown might digest seed) later digest seed served error
    short_over error read seen reads (inl u) =
        inl (unserved_for (Refuses told digest seed) (Refuses shown digest seed) (StaysSettled images left digest) (StaysSettled might later digest) read seen (λ r. refuses_for told shown same digest seed r)
        (stays_for told shown same digest seed images might fewer left later less) reads served error u)
    short_over error read seen reads (inr h) =
        inr record { stopped = h.stopped; failed = h.failed; memory = h.memory; accepted = h.accepted; hosted = hosted_over h.memory h.stopped h.hosted; is_end = h.is_end }

    pub sent_over : SendsFound sent_by (IsFound told images digest seed) (StaysSettled images left digest) left digest seed served
        → SendsFound sent_by (IsFound shown might digest seed) (StaysSettled might later digest) later digest seed served
    sent_over (inl (stays, none)) = inl (stays_for told shown same digest seed images might fewer left later less stays, none)
    sent_over (inr (journal, place, found, k)) = inr (
      journal,
      place,
      found_for told shown same digest seed images might fewer journal place found,
      record { steps = k.steps; left = fewer_left left later less digest (after_all (new_life seed journal place) k.steps) k.left; sent = k.sent },
    )

-- ---- a file whose disk wasn't opened

not_foreign : (why : DriveError) → (why ≡ Fault) ⊎ (why ≡ Memory) → IsForeign why → ⊥
not_foreign why (inl e) of = subst IsForeign e of
not_foreign why (inr e) of = subst IsForeign e of

outside : (why : DriveError) (P : JournalRefusal → Type 0) → (why ≡ Fault) ⊎ (why ≡ Memory) → (why ≡ Fault) ⊎ (why ≡ Memory) ⊎ ((refusal : JournalRefusal) × (why ≡ Journal refusal) × P refusal)
outside why P (inl e) = inl e
outside why P (inr e) = inr (inl e)

module _ {T D : Type 0} (heard_by : T → List Heard) (sent_by : T → List (List ℕ)) (line_faults : T → ℕ) (opened_at : T → ℕ) (is_shut : T → Bool) (may_leave : D → List ℕ → Type 0)
    (files : FilesAround) (name bytes : List ℕ) (seed : Seed) (served : List (List (Served T))) (none : served ≡ []) (crash : SameImages (files.might_leave name) (files.may_leave name))
  where
    pub unopened_hosts : (why : DriveError) → (why ≡ Fault) ⊎ (why ≡ Memory)
        → FileHostsShort heard_by sent_by line_faults opened_at is_shut may_leave files name bytes seed served why
    unopened_hosts why is = inl record {
      none = none;
      as_settled = λ text body settled c image. settled c ((crash c).0 image);
      read = λ foreign. absurd (not_foreign why is foreign);
      cause = outside why (Refuses (opened_bytes (files.before name)) (digest_of bytes) seed) is;
    }

-- ---- a seed file that was read before

module _ {T D : Type 0} (heard_by : T → List Heard) (sent_by : T → List (List ℕ)) (line_faults : T → ℕ) (opened_at : T → ℕ) (is_shut : T → Bool) (may_leave : D → List ℕ → Type 0)
    {F : Type 0} (holds : F → Files) (images : F → List ℕ → List ℕ → Type 0) (opened : F → List ℕ → Bool) (may_fail : F → Bool) (faults : F → ℕ)
    (first second last : F) (same : (n : List ℕ) → holds second n ≡ holds first n) (crash : (n : List ℕ) → SameImages (images first n) (images second n))
    (name bytes : List ℕ) (seed : Seed) (served : List (List (Served T)))
  where
    pub to_end_since : FileHostsToEnd heard_by sent_by line_faults opened_at is_shut may_leave (files_around holds images opened may_fail faults second last) name bytes seed served
        → FileHostsToEnd heard_by sent_by line_faults opened_at is_shut may_leave (files_around holds images opened may_fail faults first last) name bytes seed served
    to_end_since h =
        to_end_over heard_by sent_by line_faults opened_at is_shut may_leave (opened_bytes (holds second name)) (opened_bytes (holds first name)) (ap opened_bytes (same name))
        (images second name) (images first name) (λ c. (crash name c).0) (images last name) (images last name) (λ c x. x) (digest_of bytes) seed served h

    pub short_since : (error : DriveError)
        → FileHostsShort heard_by sent_by line_faults opened_at is_shut may_leave (files_around holds images opened may_fail faults second last) name bytes seed served error
        → FileHostsShort heard_by sent_by line_faults opened_at is_shut may_leave (files_around holds images opened may_fail faults first last) name bytes seed served error
    short_since error h =
        short_over heard_by sent_by line_faults opened_at is_shut may_leave (opened_bytes (holds second name)) (opened_bytes (holds first name)) (ap opened_bytes (same name))
        (images second name) (images first name) (λ c. (crash name c).0) (images last name) (images last name) (λ c x. x) (digest_of bytes) seed served error
        (JournalRead (files_around holds images opened may_fail faults second last) (Some name)) (JournalRead (files_around holds images opened may_fail faults first last) (Some name))
        (λ read. (subst (λ b. StaysOrIsMade b (holds last name)) (same name) read.0, λ c x. (crash name c).0 (read.1 c x))) h

    pub sent_since : SendsFound sent_by (IsFound (opened_bytes (holds second name)) (images second name) (digest_of bytes) seed) (StaysSettled (images second name) (images last name) (digest_of bytes)) (images last name) (digest_of bytes) seed served
        → SendsFound sent_by (IsFound (opened_bytes (holds first name)) (images first name) (digest_of bytes) seed) (StaysSettled (images first name) (images last name) (digest_of bytes)) (images last name) (digest_of bytes) seed served
    sent_since k =
        sent_over heard_by sent_by line_faults opened_at is_shut may_leave (opened_bytes (holds second name)) (opened_bytes (holds first name)) (ap opened_bytes (same name))
        (images second name) (images first name) (λ c. (crash name c).0) (images last name) (images last name) (λ c x. x) (digest_of bytes) seed served k

-- what was sent is kept by the journal, by the bytes of a seed file and its seed
abbrev pub SeedSends : {T : Type 0} → (T → List (List ℕ)) → FilesAround → List ℕ → List (List (Served T)) → List ℕ → Seed → Type 0
SeedSends sent_by files name served bytes seed =
    SendsFound sent_by (IsFound (opened_bytes (files.before name)) (files.might_leave name) (digest_of bytes) seed) (StaysSettled (files.might_leave name) (files.may_leave name) (digest_of bytes)) (files.may_leave name) (digest_of bytes) seed served

-- what was kept of the seed that was read is kept of the file that is told
pub read_serves : {T : Type 0} (sent_by : T → List (List ℕ)) (laws : Laws) (files : FilesAround) (named : ServeWords) (read : List ℕ) (seed : Seed) (served : List (List (Served T)))
    → IsFile (files.before named.multidata) read → SeedOf read (Ok seed) → SeedSends sent_by files named.journal served read seed
    → (bytes : List ℕ) (other : Seed) → files.before named.multidata ≡ Some (Some bytes) → SeedOf bytes (Ok other) → SentKeeps sent_by files named.journal (digest_of bytes) other served
read_serves sent_by laws files named read seed served is_file is keeps bytes other told other_is =
    let same : read ≡ bytes = told_bytes (files.before named.multidata) bytes read told is_file in
    let seeds : seed ≡ other = one_seed bytes seed other (subst (λ b. SeedOf b (Ok seed)) same is) other_is in
    sent_keeps sent_by files named.journal (digest_of bytes) other served laws
    (subst (λ b. SeedSends sent_by files named.journal served b other) same (subst (λ s. SeedSends sent_by files named.journal served read s) seeds keeps))

-- ---- a journal that was found

pub finds_over : (told shown : Option (List ℕ)) → told ≡ shown → (digest : List ℕ) (seed : Seed) (images might : List ℕ → Type 0) → ((c : List ℕ) → images c → might c) → Finds (IsFound told images digest seed) → Finds (IsFound shown might digest seed)
finds_over told shown same digest seed images might fewer k = (k.0, k.1, found_for told shown same digest seed images might fewer k.0 k.1 k.2)

-- ---- how it ends

pub refused_not : {b : Bool} → b ≡ false → b ≡ true → ⊥
refused_not is done = true≢false (sym done ∙ is)

-- all is done only where all links were served
pub finishes_all : (outcome : Result ℕ DriveError) (old new : Option (List ℕ)) (answer : Result (Unit {0}) (Stop DriveCause)) → Finishes outcome old new answer → is_ok answer ≡ true → is_ok outcome ≡ true
finishes_all (Ok n) old new answer f is = refl
finishes_all (Err e) old new (Ok u) f is = let none : Ok u ≡ Err (drive_stop e) = f.0 in cc
finishes_all (Err e) old new (Err s) f is = cc

stop_some : (s : Stop DriveCause) → stop_status drive_status s ≡ 0 → ⊥
stop_some stop.Fault h = cc
stop_some stop.Memory h = cc
stop_some (stop.Refused (cause.SeedFile c)) h = cc
stop_some (stop.Refused (cause.Journal refusal)) h = cc
stop_some (stop.Refused (cause.Script line)) h = cc
stop_some (stop.Refused cause.Full) h = cc

pub zero_is_ok : {T : Type 0} (outcome : Result T (Stop DriveCause)) (status : ℕ) (told : Told) → IfErr outcome (λ s. Ended drive_status drive_line s status told) → status ≡ 0 → is_ok outcome ≡ true
zero_is_ok (Ok x) status told ended zero = refl
zero_is_ok (Err s) status told ended zero = absurd (stop_some ended.named (sym ended.is_status ∙ zero))

finishes_ok : (outcome : Result ℕ DriveError) (old new : Option (List ℕ)) (answer : Result (Unit {0}) (Stop DriveCause)) (total : ℕ) (P : Type 0)
    → Finishes outcome old new answer → IfOk outcome (λ n. (n ≡ total) × P) → OnOk answer (P × Appends old new (sessions_line total))
finishes_ok (Ok n) old new (Ok u) total P f done = (done.1, subst (λ k. Appends old new (sessions_line k)) done.0 f)
finishes_ok (Ok n) old new (Err s) total P f done = tt
finishes_ok (Err e) old new (Ok u) total P f done = let is : Ok u ≡ Err (drive_stop e) = f.0 in cc
finishes_ok (Err e) old new (Err s) total P f done = tt

pub finishes_err : (outcome : Result ℕ DriveError) (old new : Option (List ℕ)) (answer : Result (Unit {0}) (Stop DriveCause)) (total : ℕ) (P : Type 0) (Q : DriveError → Type 0) (R : Stop DriveCause → Type 0)
    → Finishes outcome old new answer → IfOk outcome (λ n. (n ≡ total) × P) → IfErr outcome Q
    → ((error : DriveError) (s : Stop DriveCause) → s ≡ drive_stop error → Keeps old new → Q error → R s)
    → (P → (s : Stop DriveCause) → (s ≡ stop.Fault) ⊎ (s ≡ stop.Memory) → PutsFront old new (sessions_line total) → R s)
    → IfErr answer R
finishes_err (Ok n) old new (Ok u) total P Q R f done short before after = tt
finishes_err (Ok n) old new (Err s) total P Q R f done short before after = after done.1 s f.0 (subst (λ k. PutsFront old new (sessions_line k)) done.0 f.1)
finishes_err (Err e) old new (Ok u) total P Q R f done short before after = tt
finishes_err (Err e) old new (Err s) total P Q R f done short before after = let is : Err s ≡ Err (drive_stop e) = f.0 in let one : s ≡ drive_stop e = cc in before e s one f.1 short

module _ {T D : Type 0} (heard_by : T → List Heard) (sent_by : T → List (List ℕ)) (line_faults : T → ℕ) (opened_at : T → ℕ) (is_shut : T → Bool) (may_leave : D → List ℕ → Type 0)
    (files : FilesAround) (named : ServeWords) (served : List (List (Served T))) (old new : Option (List ℕ))
  where
    pub serve_done : (bytes : List ℕ) (seed : Seed) (seed_was : SeedWas files named.multidata bytes seed) (outcome : Result ℕ DriveError) (answer : Result (Unit {0}) (Stop DriveCause))
        → Finishes outcome old new answer
        → IfOk outcome (λ n. (n ≡ count_all served) × FileHostsToEnd heard_by sent_by line_faults opened_at is_shut may_leave files named.journal bytes seed served)
        → OnOk answer (ServeDone heard_by sent_by line_faults opened_at is_shut may_leave files named served old new)
    serve_done bytes seed was outcome answer f done =
        done_of answer (finishes_ok outcome old new answer (count_all served) (FileHostsToEnd heard_by sent_by line_faults opened_at is_shut may_leave files named.journal bytes seed served) f done)
      where
        done_of : (r : Result (Unit {0}) (Stop DriveCause))
            → OnOk r (FileHostsToEnd heard_by sent_by line_faults opened_at is_shut may_leave files named.journal bytes seed served × Appends old new (sessions_line (count_all served)))
            → OnOk r (ServeDone heard_by sent_by line_faults opened_at is_shut may_leave files named served old new)
        done_of (Ok u) h = record { bytes = bytes; seed = seed; seed_was = was; hosts = h.0; put = h.1 }
        done_of (Err s) h = tt

    abbrev pub Stopped : Stop DriveCause → Type 0
    Stopped s = SeedStopped files named.multidata served old new s ⊎ ServeStopped heard_by sent_by line_faults opened_at is_shut may_leave files named served old new s

    pub serve_stopped : (bytes : List ℕ) (seed : Seed) (seed_was : SeedWas files named.multidata bytes seed) (outcome : Result ℕ DriveError) (answer : Result (Unit {0}) (Stop DriveCause))
        → Finishes outcome old new answer
        → IfOk outcome (λ n. (n ≡ count_all served) × FileHostsToEnd heard_by sent_by line_faults opened_at is_shut may_leave files named.journal bytes seed served)
        → IfErr outcome (FileHostsShort heard_by sent_by line_faults opened_at is_shut may_leave files named.journal bytes seed served)
        → IfErr answer Stopped
    serve_stopped bytes seed was outcome answer f done short =
        finishes_err outcome old new answer (count_all served) (FileHostsToEnd heard_by sent_by line_faults opened_at is_shut may_leave files named.journal bytes seed served)
        (FileHostsShort heard_by sent_by line_faults opened_at is_shut may_leave files named.journal bytes seed served) Stopped f done short
        (λ error s is kept short. inr record { bytes = bytes; seed = seed; seed_was = was; why = inl (error, is, kept, short) })
        (λ hosts s is front. inr record { bytes = bytes; seed = seed; seed_was = was; why = inr (hosts, is, front) })

-- what is known of an answer
pub if_ok_over : {X E : Type 0} {P Q : X → Type 0} (r : Result X E) → IfOk r P → ((x : X) → P x → Q x) → IfOk r Q
if_ok_over (Ok x) p f = f x p
if_ok_over (Err e) p f = tt

pub if_err_over : {X E : Type 0} {P Q : E → Type 0} (r : Result X E) → IfErr r P → ((e : E) → P e → Q e) → IfErr r Q
if_err_over (Ok x) p f = tt
if_err_over (Err e) p f = f e p
