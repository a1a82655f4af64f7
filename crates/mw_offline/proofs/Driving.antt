-- What the run of a script on a disk comes to for the file of which it is the disk.
use Rattle.std.proofs.Common.{◌≡◌, ◌≤◌, ◌∙◌, ◌⊎◌, arith, ℕ, List, [], ◌++◌, Option, Some, None, Result, Ok, Err, Bool, true, false, codes, refl, sym, ap, subst, inl, inr}
use Rattle.std.proofs.KnownBytes.{Keeps-refl}
use Rattle.std.proofs.lemmas.Slice.Eq.{bytes_eq-Decides}
use Rattle.std.specs.Option.{is_some}
use Rattle.std.specs.Str.{bytes_eq}
use Rattle.std.specs.Io.KnownBytes.{Keeps as WasKept}
use Rattle.std.specs.Prelude.{IfErr, IsErrAnd, OnOk, ⊤}
use Rattle.mw_edges.specs.Causes.{Rose}
use Rattle.mw_edges.specs.Files.{open_file}
use Rattle.mw_edges.specs.Folders.{SameImages, StaysOrIsMade, opened_bytes}
use Rattle.mw_model.specs.Seed.{Seed}
use Rattle.mw_multidata.specs.Digest.{digest_of}
use Rattle.mw_multidata.specs.SeedOf.{SeedOf}
use Rattle.mw_keep.proofs.OneSeed.{one_seed}
use Rattle.mw_protocol.specs.Lives.{Life, Step, after_all, life_after_all, new_life}
use Rattle.mw_protocol.specs.Records.{Record}
use Rattle.mw_protocol.specs.Spelled.{records_bytes}
use Rattle.mw_journal.specs.Settled.{AllSettled, AllShut}
use Rattle.mw_script.specs.Commands.{Command}
use Rattle.mw_drive.specs.Ends.{IsFound, IsForeign, IsReady, Refuses, StaysSettled, Drives, StopsWith, IsOfJournal}
use Rattle.mw_drive.specs.Left.{FindsItself, HasDriven, KeepsFound, KeepsFrom}
use Rattle.mw_keep.specs.Left.{IsLeft}
use Rattle.mw_drive.specs.Runs.{HasHalted}
use Rattle.mw_drive.specs.declared.error.DriveError.{DriveError}
use Rattle.mw_drive.specs.declared.error.DriveError.TheVariants.{Fault, Memory, Full, Journal, Script}
use Rattle.mw_drive.specs.declared.error.JournalRefusal.{JournalRefusal}
use Rattle.mw_drive.proofs.Crashing.{one_journal, one_place, settled_of}
use Rattle.mw_words.specs.declared.command_line.DriveWords.{DriveWords}
use Rattle.mw_causes.specs.DriveCauses.{drive_line, drive_status, drive_stop}
use Rattle.mw_offline.specs.Driving.{DriveEnds, DriveKeeps, DriveStopped, IsNewJournal, JournalLeaves, JournalRead, JournalRuns, NoImages, ScriptRun, run_of, RunsToEnd, RunsShort}
use Rattle.mw_causes.specs.SeedFiles.{IsFile, IsSeedStopped}
use Rattle.mw_causes.specs.Ends.{Ended, IsTold, Told, stop_with}
use Rattle.mw_offline.specs.FilesAround.{FilesAround, IsUntouched, files_around}
use Rattle.mw_causes.specs.Tables.{Files}
use Rattle.mw_causes.specs.declared.drive_cause.DriveCause.{DriveCause}
use Rattle.mw_causes.specs.declared.drive_cause.DriveCause.TheVariants.{SeedFile}
use Rattle.mw_causes.specs.declared.seed_cause.SeedCause.{SeedCause}
use Rattle.mw_causes.specs.declared.stop.Stop.{Stop}
use Rattle.mw_causes.specs.declared.stop.Stop.TheVariants as stop
use Rattle.mw_causes.proofs.Endings.{fault_passed, passed_exit}
use Rattle.mw_offline.proofs.Keeping.{Laws, journal_keeps, nothing_left, quiet_from, still_keeps}

-- ---- fewer images

module _ (left later : List ℕ → Type 0) (fewer : (c : List ℕ) → later c → left c) (digest : List ℕ) where
  pub fewer_shut : (text : List ℕ) (place : ℕ) → AllShut left digest text place → AllShut later digest text place
  fewer_shut text place shut c image = shut c (fewer c image)

  pub fewer_settled : (text body : List ℕ) → AllSettled left digest text body → AllSettled later digest text body
  fewer_settled text body settled c image = settled c (fewer c image)

  pub fewer_left : (life : Life) → IsLeft left digest life → IsLeft later digest life
  fewer_left life l = record { records = l.records; batch = l.batch; first = l.first; settled = λ c image. l.settled c (fewer c image) }

  pub fewer_from : (life : Life) (old new : Option (List ℕ)) → KeepsFrom left digest life old new → KeepsFrom later digest life old new
  fewer_from life old new k = record { steps = k.steps; left = fewer_left (after_all life k.steps) k.left; put = k.put; front = k.front; taken = k.taken }

  pub fewer_driven : (life : Life) (cs : List Command) (old new : Option (List ℕ)) → HasDriven left digest life cs old new → HasDriven later digest life cs old new
  fewer_driven life cs old new d = record { whole = d.whole; put = d.put; place = d.place; stands = λ c image. d.stands c (fewer c image) }

  pub fewer_halted : (seed : Seed) (life : Life) (cs : List Command) (old new : Option (List ℕ)) (error : DriveError) → HasHalted left digest seed life cs old new error → HasHalted later digest seed life cs old new error
  fewer_halted seed life cs old new error h =
      record { front = h.front; full = h.full; kept = fewer_from life old new h.kept; outside = h.outside }

-- ---- a run on a disk, where less is said of what it held, told and may leave

module _ (found held : List Record → ℕ → Type 0) (eased : (j : List Record) (p : ℕ) → found j p → held j p) (left later : List ℕ → Type 0) (fewer : (c : List ℕ) → later c → left c)
    (told shown : Option (List ℕ)) (telling : (cs : List Command) → FindsItself shown cs → FindsItself told cs) (digest : List ℕ) (seed : Seed)
  where
    ready_for : (before after : Option (List ℕ)) (life : Life) (cs : List Command) → IsReady found seed before after life cs → IsReady held seed before after life cs
    ready_for before after life cs r = record { journal = r.journal; place = r.place; is_found = eased r.journal r.place r.is_found; begins = r.begins; script = r.script }

    pub drives_for : (before after old new : Option (List ℕ)) → Drives found told left digest seed before after old new → Drives held shown later digest seed before after old new
    drives_for before after old new d = record {
      life = d.life;
      commands = d.commands;
      ready = ready_for before after d.life d.commands d.ready;
      driven = λ finds. fewer_driven left later fewer digest d.life d.commands old new (d.driven (telling d.commands finds));
    }

    module _ {S : Type 0} (source : S → Option (List ℕ)) (refuses refused : JournalRefusal → Type 0) (settled still : Type 0) (stays : settled → still) (read seen : Type 0) (reads : read → seen) (before after : S) (old new : Option (List ℕ))
        (error : DriveError) (refusing : (refusal : JournalRefusal) → error ≡ Journal refusal → refuses refusal → refused refusal)
      where
        cause_for : (error ≡ Fault) ⊎ (error ≡ Memory) ⊎ ((refusal : JournalRefusal) × (error ≡ Journal refusal) × refuses refusal)
            → (error ≡ Fault) ⊎ (error ≡ Memory) ⊎ ((refusal : JournalRefusal) × (error ≡ Journal refusal) × refused refusal)
        cause_for (inl fault) = inl fault
        cause_for (inr (inl memory)) = inr (inl memory)
        cause_for (inr (inr (refusal, is, why))) = inr (inr (refusal, is, refusing refusal is why))

        pub stops_for : StopsWith source found refuses settled read told left digest seed before after old new error → StopsWith source held refused still seen shown later digest seed before after old new error
        stops_for (inl u) = inl record { as_settled = stays u.as_settled; read = λ foreign. reads (u.read foreign); untouched = u.untouched; quiet = u.quiet; cause = cause_for u.cause }
        stops_for (inr (inl u)) = inr (inl record {
          journal = u.journal;
          place = u.place;
          is_found = eased u.journal u.place u.is_found;
          quiet = u.quiet;
          stands = λ c image. u.stands c (fewer c image);
          cause = u.cause;
        })
        stops_for (inr (inr s)) = inr (inr record {
          life = s.life;
          commands = s.commands;
          ready = ready_for (source before) (source after) s.life s.commands s.ready;
          ran = s.ran;
          outside = λ finds. s.outside (telling s.commands finds);
          halted = λ finds. fewer_halted left later fewer digest seed s.life s.commands old new error (s.halted (telling s.commands finds));
        })

-- ---- a disk of which a file is told, and what a crash might leave of it

module _ (told shown : Option (List ℕ)) (same : told ≡ shown) (digest : List ℕ) (seed : Seed) where
  pub finds_for : (cs : List Command) → FindsItself shown cs → FindsItself told cs
  finds_for cs finds = subst (λ t. FindsItself t cs) (sym same) finds

  pub refuses_for : (refusal : JournalRefusal) → Refuses told digest seed refusal → Refuses shown digest seed refusal
  refuses_for refusal r = subst (λ t. Refuses t digest seed refusal) same r

  pub some_for : is_some shown ≡ true → is_some told ≡ true
  some_for some = ap is_some same ∙ some

  module _ (images might : List ℕ → Type 0) (fewer : (c : List ℕ) → images c → might c) where
    pub found_for : (journal : List Record) (place : ℕ) → IsFound told images digest seed journal place → IsFound shown might digest seed journal place
    found_for journal place f = record {
      sound = f.sound;
      stands = λ bytes is. f.stands bytes (same ∙ is);
      one = λ bytes kept batch is records each settled. f.one bytes kept batch (same ∙ is) records each (λ c image. settled c (fewer c image));
    }

    pub stays_for : (left later : List ℕ → Type 0) → ((c : List ℕ) → later c → left c) → StaysSettled images left digest → StaysSettled might later digest
    stays_for left later less stays text body settled c image = stays text body (λ i is. settled i (fewer i is)) c (less c image)

-- what a run on a disk comes to is what it comes to for a file that tells the same, of which a crash
-- might have left more and may leave less
module _ (told shown : Option (List ℕ)) (same : told ≡ shown) (images might : List ℕ → Type 0) (fewer : (c : List ℕ) → images c → might c)
    (left later : List ℕ → Type 0) (less : (c : List ℕ) → later c → left c) (digest : List ℕ) (seed : Seed) (old new : Option (List ℕ))
  where
    pub drives_over : (before after : Option (List ℕ)) → Drives (IsFound told images digest seed) told left digest seed before after old new
        → Drives (IsFound shown might digest seed) shown later digest seed before after old new
    drives_over before after d =
        drives_for (IsFound told images digest seed) (IsFound shown might digest seed) (found_for told shown same digest seed images might fewer) left later less told shown
        (finds_for told shown same digest seed) digest seed before after old new d

    pub found_over : KeepsFound (IsFound told images digest seed) (StaysSettled images left digest) left digest seed old new
        → KeepsFound (IsFound shown might digest seed) (StaysSettled might later digest) later digest seed old new
    found_over (inl (stays, quiet)) = inl (stays_for told shown same digest seed images might fewer left later less stays, quiet)
    found_over (inr (journal, place, found, k)) =
        inr (journal, place, found_for told shown same digest seed images might fewer journal place found, fewer_from left later less digest (new_life seed journal place) old new k)

    module _ (error : DriveError) where
      pub stops_over : {S : Type 0} (source : S → Option (List ℕ)) (before after : S) (read seen : Type 0) → (read → seen)
          → StopsWith source (IsFound told images digest seed) (Refuses told digest seed) (StaysSettled images left digest) read told left digest seed before after old new error
          → StopsWith source (IsFound shown might digest seed) (Refuses shown digest seed) (StaysSettled might later digest) seen shown later digest seed before after old new error
      stops_over source before after read seen reads s =
          stops_for (IsFound told images digest seed) (IsFound shown might digest seed) (found_for told shown same digest seed images might fewer) left later less told shown
          (finds_for told shown same digest seed) digest seed source (Refuses told digest seed) (Refuses shown digest seed) (StaysSettled images left digest) (StaysSettled might later digest)
          (stays_for told shown same digest seed images might fewer left later less) read seen reads before after old new error (λ refusal is. refuses_for told shown same digest seed refusal) s

      pub accepted_over : ((steps : List Step) → is_some told ≡ true → IsLeft images digest (life_after_all seed steps) → IsOfJournal error → ⊥)
          → (steps : List Step) → is_some shown ≡ true → IsLeft might digest (life_after_all seed steps) → IsOfJournal error → ⊥
      accepted_over accepted steps some is =
          accepted steps (some_for told shown same digest seed some) (fewer_left might images fewer digest (life_after_all seed steps) is)

-- an answer that is Ok has what such an answer has
pub from_ok : {T E : Type 0} (r : Result T E) (P : Type 0) (x : T) → r ≡ Ok x → OnOk r P → P
from_ok (Ok y) P x is h = h
from_ok (Err e) P x is h = cc

-- two things that are known of an error
pub if_err_two : {T E : Type 0} {P Q R : E → Type 0} (r : Result T E) → IfErr r P → IfErr r Q → ((e : E) → P e → Q e → R e) → IfErr r R
if_err_two (Ok x) p q f = tt
if_err_two (Err e) p q f = f e p q

-- ---- a new journal on a disk in memory

module _ (f : List ℕ) (images : List ℕ → Type 0) (here : images f) (digest : List ℕ) (seed : Seed) (shut : AllShut images digest [] 40) where
  pub new_found : (journal : List Record) (place : ℕ) → IsFound (Some f) images digest seed journal place → IsNewJournal journal place
  new_found journal place found = (
    one_journal f digest [] journal 40 place (found.one f [] [] refl tt tt (settled_of images digest [] [] 40 shut)),
    one_place f digest [] journal 40 place (records_bytes journal) 0 (found.stands f refl) (0, shut f here),
  )

  -- it is settled for the first life of a room
  pub new_left : IsLeft images digest (life_after_all seed [])
  new_left = record { records = tt; batch = []; first = ([], refl); settled = settled_of images digest [] [] 40 shut }

  module _ (left : List ℕ → Type 0) (old new : Option (List ℕ)) where
    pub drives_new : (before after : Option (List ℕ)) → Drives (IsFound (Some f) images digest seed) (Some f) left digest seed before after old new
        → Drives IsNewJournal (Some []) NoImages digest seed before after old new
    drives_new before after d =
        drives_for (IsFound (Some f) images digest seed) IsNewJournal new_found left NoImages (λ c never. absurd never) (Some f) (Some []) (λ cs finds. inl refl) digest seed before after old new d

    pub runs_new : (is_some (Some f) ≡ true → KeepsFound (IsFound (Some f) images digest seed) (StaysSettled images left digest) left digest seed old new) → KeepsFrom NoImages digest (new_life seed [] 40) old new
    runs_new keeps = by (keeps refl)
      where
        by : KeepsFound (IsFound (Some f) images digest seed) (StaysSettled images left digest) left digest seed old new → KeepsFrom NoImages digest (new_life seed [] 40) old new
        by (inl (stays, quiet)) = quiet_from NoImages digest (new_life seed [] 40) old new quiet nothing_left
        by (inr (journal, place, found, k)) =
            let new_is = new_found journal place found in
            fewer_from left NoImages (λ c never. absurd never) digest (new_life seed [] 40) old new
            (subst (λ j. KeepsFrom left digest (new_life seed j 40) old new) new_is.0 (subst (λ p. KeepsFrom left digest (new_life seed journal p) old new) new_is.1 k))

    pub stops_new : {S : Type 0} (source : S → Option (List ℕ)) (before after : S) (error : DriveError) → (IsOfJournal error → ⊥)
        → (read : Type 0) → StopsWith source (IsFound (Some f) images digest seed) (Refuses (Some f) digest seed) (StaysSettled images left digest) read (Some f) left digest seed before after old new error
        → StopsWith source IsNewJournal (λ refusal. ⊥) (StaysSettled NoImages NoImages digest) ⊤ (Some []) NoImages digest seed before after old new error
    stops_new source before after error other read s =
        stops_for (IsFound (Some f) images digest seed) IsNewJournal new_found left NoImages (λ c never. absurd never) (Some f) (Some []) (λ cs finds. inl refl) digest seed source
        (Refuses (Some f) digest seed) (λ refusal. ⊥) (StaysSettled images left digest) (StaysSettled NoImages NoImages digest) (λ stays text body settled. settled) read ⊤ (λ r. tt) before after old new error
        (λ refusal is why. other (subst IsOfJournal (sym is) tt)) s

-- ---- folders that are as they were

-- nothing of them was touched, and no disk was opened
pub record AreUnmoved (files : FilesAround) : Type 0 where
  pub each : (n : List ℕ) → IsUntouched files n
  pub opened : (n : List ℕ) → files.is_open n ≡ files.was_open n

module _ (files : FilesAround) (unmoved : AreUnmoved files) where
  pub unmoved_leaves : (journal : Option (List ℕ)) → JournalLeaves files journal
  unmoved_leaves journal = record {
    tells = λ n. ap (λ file. is_some (opened_bytes file)) (unmoved.each n).told;
    others = λ n other. unmoved.each n;
    opened = unmoved.opened;
  }

  pub unmoved_all : (named : DriveWords) (held : Option (List ℕ)) → DriveKeeps files named held held
  unmoved_all named held bytes seed told is = still_keeps files (λ n c. ((unmoved.each n).crash c).0) (digest_of bytes) seed held named.journal

module _ {F : Type 0} (holds : F → Files) (images : F → List ℕ → List ℕ → Type 0) (opened : F → List ℕ → Bool) (may_fail : F → Bool) (faults : F → ℕ) where
  pub same_folder : (folder : F) → AreUnmoved (files_around holds images opened may_fail faults folder folder)
  same_folder folder = record { each = λ n. record { told = refl; crash = λ c. (λ x. x, λ x. x) }; opened = λ n. refl }

  -- memory ran out before a folder, an input or an out sink was touched
  pub unstarted : {S : Type 0} (source : S → Option (List ℕ)) (folder : F) (named : DriveWords) (input : S) (held : Option (List ℕ)) (count : ℕ) (told : Told) (status : ℕ)
      → status ≡ 6 → IsTold told (codes "no memory\n")
      → DriveEnds source status (files_around holds images opened may_fail faults folder folder) named input input (record { old = held; new = held; before = count; now = count }) told
  unstarted source folder named input held count told status is_status line = record {
    ends = inr (
      stop.Memory,
      inl record {
        seed_stop = stop.Memory;
        is = refl;
        cause = tt;
        untouched = refl;
        quiet = Keeps-refl held;
        files_stay = (same_folder folder).each;
      },
      record { named = stop.Memory; is = inl refl; is_status = is_status; line = line },
    );
    leaves = unmoved_leaves (files_around holds images opened may_fail faults folder folder) (same_folder folder) named.journal;
    kept = unmoved_all (files_around holds images opened may_fail faults folder folder) (same_folder folder) named held;
  }

-- ---- a seed file that was read before

module _ {F : Type 0} (holds : F → Files) (images : F → List ℕ → List ℕ → Type 0) (opened : F → List ℕ → Bool) (may_fail : F → Bool) (faults : F → ℕ)
    (first second last : F) (same : (n : List ℕ) → holds second n ≡ holds first n) (crash : (n : List ℕ) → SameImages (images first n) (images second n))
  where
    module _ {S : Type 0} (source : S → Option (List ℕ)) (run : ScriptRun S) where
      pub runs_since : (journal : Option (List ℕ)) → RunsToEnd source (files_around holds images opened may_fail faults second last) journal run
          → RunsToEnd source (files_around holds images opened may_fail faults first last) journal run
      runs_since None r = r
      runs_since (Some name) r =
          drives_over (opened_bytes (holds second name)) (opened_bytes (holds first name)) (ap opened_bytes (same name)) (images second name) (images first name) (λ c. (crash name c).0)
          (images last name) (images last name) (λ c x. x) (digest_of run.bytes) run.seed run.old run.new (source run.before) (source run.after) r

      pub short_since : (journal : Option (List ℕ)) (why : DriveError) → RunsShort source (files_around holds images opened may_fail faults second last) journal run why
          → RunsShort source (files_around holds images opened may_fail faults first last) journal run why
      short_since None why r = record { stops = r.stops; accepted = r.accepted }
      short_since (Some name) why r = record {
        stops = stops_over (opened_bytes (holds second name)) (opened_bytes (holds first name)) (ap opened_bytes (same name)) (images second name) (images first name) (λ c. (crash name c).0)
            (images last name) (images last name) (λ c x. x) (digest_of run.bytes) run.seed run.old run.new why source run.before run.after
            (JournalRead (files_around holds images opened may_fail faults second last) (Some name)) (JournalRead (files_around holds images opened may_fail faults first last) (Some name))
            (λ read. (subst (λ b. StaysOrIsMade b (holds last name)) (same name) read.0, λ c x. (crash name c).0 (read.1 c x))) r.stops;
        accepted = accepted_over (opened_bytes (holds second name)) (opened_bytes (holds first name)) (ap opened_bytes (same name)) (images second name) (images first name) (λ c. (crash name c).0)
            (images last name) (images last name) (λ c x. x) (digest_of run.bytes) run.seed run.old run.new why r.accepted;
      }

    pub journal_since : (journal : Option (List ℕ)) (digest : List ℕ) (seed : Seed) (old new : Option (List ℕ))
        → JournalRuns (files_around holds images opened may_fail faults second last) journal digest seed old new
        → JournalRuns (files_around holds images opened may_fail faults first last) journal digest seed old new
    journal_since None digest seed old new k = k
    journal_since (Some name) digest seed old new k = λ some.
        found_over (opened_bytes (holds second name)) (opened_bytes (holds first name)) (ap opened_bytes (same name)) (images second name) (images first name) (λ c. (crash name c).0)
        (images last name) (images last name) (λ c x. x) digest seed old new (k (ap (λ file. is_some (opened_bytes file)) (same name) ∙ some))

    pub leaves_since : (journal : Option (List ℕ)) → ((n : List ℕ) → opened second n ≡ opened first n)
        → JournalLeaves (files_around holds images opened may_fail faults second last) journal → JournalLeaves (files_around holds images opened may_fail faults first last) journal
    leaves_since journal same_open l = record {
      tells = λ n. l.tells n ∙ ap (λ file. is_some (opened_bytes file)) (same n);
      others = λ n other. record {
        told = (l.others n other).told ∙ same n;
        crash = λ c. (λ x. (crash n c).0 (((l.others n other).crash c).0 x), λ x. ((l.others n other).crash c).1 ((crash n c).1 x));
      };
      opened = λ n. l.opened n ∙ same_open n;
    }

-- the file that is told is the one that was read, and it stands for one seed
pub told_bytes : (file : Option (Option (List ℕ))) (bytes read : List ℕ) → file ≡ Some (Some bytes) → IsFile file read → read ≡ bytes
told_bytes None bytes read told is = cc
told_bytes (Some None) bytes read told is = absurd is
told_bytes (Some (Some held)) bytes read told is = let same : Some (Some held) ≡ Some (Some bytes) = told in is.0 ∙ cc

pub read_keeps : Laws → (files : FilesAround) (named : DriveWords) (read : List ℕ) (seed : Seed) (old new : Option (List ℕ)) → IsFile (files.before named.multidata) read → SeedOf read (Ok seed)
    → JournalRuns files named.journal (digest_of read) seed old new → DriveKeeps files named old new
read_keeps laws files named read seed old new is_file is runs bytes other told other_is =
    let same : read ≡ bytes = told_bytes (files.before named.multidata) bytes read told is_file in
    let seeds : seed ≡ other = one_seed bytes seed other (subst (λ b. SeedOf b (Ok seed)) same is) other_is in
    journal_keeps laws files (digest_of bytes) other old new named.journal
    (subst (λ b. JournalRuns files named.journal (digest_of b) other old new) same (subst (λ s. JournalRuns files named.journal (digest_of read) s old new) seeds runs))

-- a file that stays, or is made empty, is told as before; and so is one whose disk tells as before
pub tells_made : (before after : Option (Option (List ℕ))) → StaysOrIsMade before after → is_some (opened_bytes after) ≡ is_some (opened_bytes before)
tells_made before after (inl same) = ap (λ file. is_some (opened_bytes file)) same
tells_made before after (inr made) = ap (λ file. is_some (opened_bytes file)) made.1 ∙ sym (ap (λ file. is_some (opened_bytes file)) made.0)

pub tells_closed : (told : Option (List ℕ)) (after : Option (Option (List ℕ))) → after ≡ open_file told → is_some (opened_bytes after) ≡ is_some told
tells_closed None after is = ap (λ file. is_some (opened_bytes file)) is
tells_closed (Some bytes) after is = ap (λ file. is_some (opened_bytes file)) is

-- ---- the file's disk

-- of any two names, either they are one or they aren't
either_name : (n name : List ℕ) (P : Type 0) → (n ≡ name → P) → ((n ≡ name → ⊥) → P) → P
either_name n name P one other = by (bytes_eq n name) refl
  where
    by : (b : Bool) → bytes_eq n name ≡ b → P
    by true e = one ((bytes_eq-Decides n name).0 e)
    by false e = other (λ same. let is : bytes_eq n name ≡ true = (bytes_eq-Decides n name).1 same in cc)

module _ {F : Type 0} (holds : F → Files) (images : F → List ℕ → List ℕ → Type 0) (opened : F → List ℕ → Bool) (may_fail : F → Bool) (faults : F → ℕ) (first last : F) (name : List ℕ) where
  -- all files but this one stay
  pub leaves_by : ((n : List ℕ) → (n ≡ name → ⊥) → holds last n ≡ holds first n) → ((n : List ℕ) → (n ≡ name → ⊥) → SameImages (images first n) (images last n))
      → opened last name ≡ opened first name → ((n : List ℕ) → (n ≡ name → ⊥) → opened last n ≡ opened first n)
      → is_some (opened_bytes (holds last name)) ≡ is_some (opened_bytes (holds first name))
      → JournalLeaves (files_around holds images opened may_fail faults first last) (Some name)
  leaves_by told crash here there tells = record {
    tells = λ n. either_name n name (is_some (opened_bytes (holds last n)) ≡ is_some (opened_bytes (holds first n)))
        (λ same. subst (λ m. is_some (opened_bytes (holds last m)) ≡ is_some (opened_bytes (holds first m))) (sym same) tells)
        (λ other. ap (λ file. is_some (opened_bytes file)) (told n other));
    others = λ n other. record { told = told n (λ same. other (ap Some (sym same))); crash = crash n (λ same. other (ap Some (sym same))) };
    opened = λ n. either_name n name (opened last n ≡ opened first n) (λ same. ap (opened last) same ∙ here ∙ ap (opened first) (sym same)) (there n);
  }

  -- its disk wasn't opened
  module _ (crash : SameImages (images first name) (images last name)) where
    pub unopened_short : {S : Type 0} (source : S → Option (List ℕ)) (bytes : List ℕ) (seed : Seed) (input : S) (held : Option (List ℕ)) (why : DriveError) → (why ≡ Fault) ⊎ (why ≡ Memory)
        → RunsShort source (files_around holds images opened may_fail faults first last) (Some name) (run_of bytes seed input input held held) why
    unopened_short source bytes seed input held why is = record {
      stops = inl record {
        as_settled = λ text body settled c image. settled c ((crash c).0 image);
        read = λ foreign. absurd (not_foreign is foreign);
        untouched = refl;
        quiet = Keeps-refl held;
        cause = outside is;
      };
      accepted = λ steps some left of. not_of is of;
    }
      where
        outside : (why ≡ Fault) ⊎ (why ≡ Memory) → (why ≡ Fault) ⊎ (why ≡ Memory) ⊎ ((refusal : JournalRefusal) × (why ≡ Journal refusal) × Refuses (opened_bytes (holds first name)) (digest_of bytes) seed refusal)
        outside (inl e) = inl e
        outside (inr e) = inr (inl e)

        not_foreign : (why ≡ Fault) ⊎ (why ≡ Memory) → IsForeign why → ⊥
        not_foreign (inl e) of = subst IsForeign e of
        not_foreign (inr e) of = subst IsForeign e of

        not_of : (why ≡ Fault) ⊎ (why ≡ Memory) → IsOfJournal why → ⊥
        not_of (inl e) of = subst IsOfJournal e of
        not_of (inr e) of = subst IsOfJournal e of

    pub unopened_runs : (digest : List ℕ) (seed : Seed) (held : Option (List ℕ)) → JournalRuns (files_around holds images opened may_fail faults first last) (Some name) digest seed held held
    unopened_runs digest seed held some = inl ((λ text body settled c image. settled c ((crash c).0 image)), Keeps-refl held)

-- what a disk tells that was only read is what the file held, or none where there was no file
pub opened_same : (file after : Option (Option (List ℕ))) → after ≡ open_file (opened_bytes file) → StaysOrIsMade file after
opened_same None after is = inl is
opened_same (Some None) after is = inr (refl, is)
opened_same (Some (Some bytes)) after is = inl is

pub same_both : (first middle last : List ℕ → Type 0) → SameImages first middle → SameImages middle last → SameImages first last
same_both first middle last one two c = (λ x. (one c).0 ((two c).0 x), λ x. (two c).1 ((one c).1 x))

-- ---- the command

drive_fault : (why : DriveError) → drive_stop why ≡ stop.Fault → why ≡ Fault
drive_fault Fault e = refl
drive_fault Memory e = cc
drive_fault Full e = cc
drive_fault (Journal refusal) e = cc
drive_fault (Script line) e = cc

-- a fault that is passed on is one of the run
pub run_fault : {T : Type 0} (answer : Result T (Stop DriveCause)) (why : DriveError) → IsErrAnd answer (λ e. e ≡ drive_stop why) → answer ≡ Err stop.Fault → why ≡ Fault
run_fault answer why is e = drive_fault why (fault_passed answer (drive_stop why) is e)

pub rose_since : {X : Type 0} (first second last : ℕ) → first ≤ second → Rose second last ⊎ X → Rose first last ⊎ X
rose_since first second last later (inl rose) = inl (omega (arith, later, rose))
rose_since first second last later (inr x) = inr x

module _ {S : Type 0} (source : S → Option (List ℕ)) (files : FilesAround) (named : DriveWords) where
  pub seed_exit : {T : Type 0} (input : S) (held : Option (List ℕ)) (answer : Result T (Stop DriveCause)) (why : Stop SeedCause) → IsSeedStopped (files.before named.multidata) files.may_fail why
      → AreUnmoved files → IsErrAnd answer (λ e. e ≡ stop_with SeedFile why) → IfErr answer (DriveStopped source files named input input held held)
  seed_exit input held answer why cause unmoved is =
      passed_exit (DriveStopped source files named input input held held) answer (stop_with SeedFile why)
      (inl record { seed_stop = why; is = refl; cause = cause; untouched = refl; quiet = Keeps-refl held; files_stay = unmoved.each }) is

  pub run_exit : {T : Type 0} (read : List ℕ) (seed : Seed) (before after : S) (old new : Option (List ℕ)) (answer : Result T (Stop DriveCause)) (why : DriveError)
      → IsFile (files.before named.multidata) read → SeedOf read (Ok seed) → RunsShort source files named.journal (run_of read seed before after old new) why
      → IsErrAnd answer (λ e. e ≡ drive_stop why) → IfErr answer (DriveStopped source files named before after old new)
  run_exit read seed before after old new answer why is_file is short passed =
      passed_exit (DriveStopped source files named before after old new) answer (drive_stop why)
      (inr record { bytes = read; seed = seed; seed_was = record { is_file = is_file; is = is }; why = why; is = refl; short = short }) passed

-- how an outcome is told
pub told_so : {T : Type 0} (outcome : Result T (Stop DriveCause)) (status : ℕ) (told : Told) (done : Type 0) (stopped : Stop DriveCause → Type 0) → OnOk outcome (status ≡ 0)
    → OnOk outcome (WasKept told.old told.new) → IfErr outcome (λ s. Ended drive_status drive_line s status told) → OnOk outcome done → IfErr outcome stopped
    → ((status ≡ 0) × done × WasKept told.old told.new) ⊎ ((s : Stop DriveCause) × stopped s × Ended drive_status drive_line s status told)
told_so (Ok x) status told done stopped zero kept ended all left = inl (zero, all, kept)
told_so (Err s) status told done stopped zero kept ended all left = inr (s, left, ended)
