-- What the run of a script on a disk comes to, by what the room that is recovered from it stands for.
use Rattle.std.proofs.Common.{◌≡◌, ◌∙◌, ◌⊎◌, ℕ, List, [], Option, true, Result, Ok, Err, refl, sym, subst, inl, inr}
use Rattle.std.proofs.Math.Seq.{take-length}
use Rattle.std.proofs.lemmas.List.Elements.{All-nil}
use Rattle.std.specs.Option.{is_some}
use Rattle.std.specs.Prelude.{IfErr, OnOk}
use Rattle.mw_model.specs.Seed.{Seed}
use Rattle.mw_multidata.specs.Digest.{digest_of}
use Rattle.mw_multidata.specs.SeedOf.{SeedOf}
use Rattle.mw_protocol.specs.Lives.{Life, new_life}
use Rattle.mw_protocol.specs.Spelled.{records_bytes}
use Rattle.mw_journal.specs.Settled.{AllShut}
use Rattle.mw_laws.specs.Naming.{NamesFit}
use Rattle.mw_keep.specs.Keeps.{kept_disk}
use Rattle.mw_keep.specs.Left.{IsLeft}
use Rattle.mw_keep.proofs.Leaving.{left_of, shut_of}
use Rattle.mw_keep.specs.Recovers.{IsNoJournal, Resumes, RefusesResume}
use Rattle.mw_keep.specs.Recovers.{IsOutside as KeepOutside}
use Rattle.mw_keep.specs.declared.error.KeepError.{KeepError}
use Rattle.mw_keep.specs.declared.error.KeepError.TheVariants as keep
use Rattle.mw_keep.specs.declared.kept.KeptRoom.{KeptRoom}
use Rattle.mw_drive.specs.Calls.{IsOutside}
use Rattle.mw_script.specs.Commands.{Command}
use Rattle.mw_drive.specs.Crashes.{error_of}
use Rattle.mw_drive.specs.declared.error.JournalRefusal.{JournalRefusal}
use Rattle.mw_drive.specs.declared.error.JournalRefusal.TheVariants.{NotJournal, OtherSeed, BadRecord}
use Rattle.mw_drive.specs.Ends.{IsFound, IsForeign, Refuses, Drives, IsUnread, IsStopped, IsOfJournal}
use Rattle.mw_drive.specs.Input.{HasNoScript}
use Rattle.mw_drive.specs.Left.{FindsItself, IsPutFrom, KeepsFound, KeepsFrom}
use Rattle.mw_drive.specs.Runs.{IsKeptIn, RunsScript, HaltsScript}
use Rattle.mw_drive.specs.declared.error.DriveError.{DriveError}
use Rattle.mw_drive.specs.declared.error.DriveError.TheVariants.{Fault, Memory, Full, Journal, Script}
use Rattle.mw_drive.proofs.Telling.{none_put}

finds_same : (told then : Option (List ℕ)) (cs : List Command) → is_some then ≡ is_some told → FindsItself told cs → FindsItself then cs
finds_same told then cs same (inl some) = inl (same ∙ some)
finds_same told then cs same (inr none) = inr none

not_of_journal : (error : DriveError) → IsOutside error → IsOfJournal error → ⊥
not_of_journal Fault o j = j
not_of_journal Memory o j = j
not_of_journal Full o j = j
not_of_journal (Journal refusal) o j = o
not_of_journal (Script line) o j = j

of_script : (before after : Option (List ℕ)) (error : DriveError) → HasNoScript before after error → IsOfJournal error → ⊥
of_script before after error (inl is) j = subst IsOfJournal is j
of_script before after error (inr (inl is)) j = subst IsOfJournal is j
of_script before after error (inr (inr h)) j = subst IsOfJournal h.2 j

module _ {D : Type 0} (told : D → Option (List ℕ)) (may_leave : D → List ℕ → Type 0) (file : List ℕ) (seed : Seed) (disk : D) (k : KeptRoom D) (accepted : SeedOf file (Ok seed))
    (fit : NamesFit seed) (r : Resumes told may_leave (digest_of file) seed disk k) (same : is_some (told (kept_disk k)) ≡ is_some (told disk))
  where
    found : IsFound (told disk) (may_leave disk) (digest_of file) seed r.journal r.place
    found = record { sound = r.sound; stands = r.stands; one = r.one }

    kept_in : (cs : List Command) → FindsItself (told disk) cs → IsKeptIn may_leave told file cs seed (new_life seed r.journal r.place) k
    kept_in cs finds = record {
      accepted = accepted;
      keeps = r.keeps;
      going = record { seed_is = refl; unstopped = refl; whole = r.whole };
      finds = finds_same (told disk) (told (kept_disk k)) cs same finds;
    }

    module _ (from to old new : Option (List ℕ)) (left : D) where
      pub runs_drive : RunsScript may_leave told file k from to old new left
          → Drives (IsFound (told disk) (may_leave disk) (digest_of file) seed) (told disk) (may_leave left) (digest_of file) seed from to old new
      runs_drive (cs, script, runs) = record {
        life = new_life seed r.journal r.place;
        commands = cs;
        ready = record { journal = r.journal; place = r.place; is_found = found; begins = refl; script = script };
        driven = λ finds. (runs seed (new_life seed r.journal r.place) (kept_in cs finds)).0;
      }

      pub halts_drive : (error : DriveError) → HaltsScript may_leave told file k from to old new left error
          → IsUnread (IsFound (told disk) (may_leave disk) (digest_of file) seed) (may_leave left) (digest_of file) from to old new error
          ⊎ IsStopped (IsFound (told disk) (may_leave disk) (digest_of file) seed) (told disk) (may_leave left) (digest_of file) seed from to old new error
      halts_drive error (inl (none, quiet, is)) = inl record {
        journal = r.journal;
        place = r.place;
        is_found = found;
        quiet = quiet;
        stands = subst (λ d. AllShut (may_leave d) (digest_of file) (records_bytes r.journal) r.place) (sym is)
            (subst (λ rs. AllShut (may_leave (kept_disk k)) (digest_of file) (records_bytes rs) r.place) (take-length r.journal) (shut_of may_leave (digest_of file) (new_life seed r.journal r.place) k r.keeps r.whole));
        cause = none;
      }
      halts_drive error (inr (cs, script, ran, halts)) = inr record {
        life = new_life seed r.journal r.place;
        commands = cs;
        ready = record { journal = r.journal; place = r.place; is_found = found; begins = refl; script = script };
        ran = ran;
        outside = λ finds. (halts seed (new_life seed r.journal r.place) (kept_in cs finds)).outside r.journal r.place refl fit r.sound.named;
        halted = λ finds. halts seed (new_life seed r.journal r.place) (kept_in cs finds);
      }

-- ---- what the run did alone

either_way : {A X : Type 0} {B : DriveError → Type 0} (answer : Result (Unit {0}) DriveError) → OnOk answer A → IfErr answer B → (A → X) → ((e : DriveError) → B e → X) → X
either_way (Ok x) a b f g = f a
either_way (Err e) a b f g = g e b

module _ {D : Type 0} (told : D → Option (List ℕ)) (may_leave : D → List ℕ → Type 0) (file : List ℕ) (seed : Seed) (disk : D) (k : KeptRoom D) (accepted : SeedOf file (Ok seed))
    (fit : NamesFit seed) (r : Resumes told may_leave (digest_of file) seed disk k) (same : is_some (told (kept_disk k)) ≡ is_some (told disk)) (some : is_some (told disk) ≡ true)
    (from to old new : Option (List ℕ)) (after : D)
  where
    -- the life in which the room was recovered
    abbrev here : Life
    here = new_life seed r.journal r.place

    kept_here : (cs : List Command) → IsKeptIn may_leave told file cs seed here k
    kept_here cs = kept_in told may_leave file seed disk k accepted fit r same cs (inl some)

    halts_from : (error : DriveError) → HaltsScript may_leave told file k from to old new after error → KeepsFrom (may_leave after) (digest_of file) here old new
    halts_from error (inl (none, quiet, is)) = record {
      steps = [];
      left = subst (λ d. IsLeft (may_leave d) (digest_of file) here) (sym is) (left_of may_leave (digest_of file) here k r.keeps);
      put = [];
      front = none_put old new quiet;
      taken = All-nil (IsPutFrom here []);
    }
    halts_from error (inr (cs, script, ran, halts)) = (halts seed here (kept_here cs)).kept

    -- the answer to it
    pub drive_found : (settled : Type 0) (answer : Result (Unit {0}) DriveError) → OnOk answer (RunsScript may_leave told file k from to old new after)
        → IfErr answer (HaltsScript may_leave told file k from to old new after) → KeepsFound (IsFound (told disk) (may_leave disk) (digest_of file) seed) settled (may_leave after) (digest_of file) seed old new
    drive_found settled answer ok err = inr (
      r.journal,
      r.place,
      record { sound = r.sound; stands = r.stands; one = r.one },
      either_way answer ok err (λ runs. (runs.2 seed here (kept_here runs.0)).1) halts_from,
    )

    -- no journal is refused in it
    pub halts_accepted : (error : DriveError) → HaltsScript may_leave told file k from to old new after error → IsOfJournal error → ⊥
    halts_accepted error (inl (none, quiet, is)) of = of_script from to error none of
    halts_accepted error (inr (cs, script, ran, halts)) of = not_of_journal error ((halts seed here (kept_here cs)).outside r.journal r.place refl fit r.sound.named) of

-- ---- no room was recovered

module _ (told : Option (List ℕ)) (digest : List ℕ) (seed : Seed) (before after : ℕ) where
  pub unopened_cause : (error : KeepError) → RefusesResume told digest seed before after error
      → (error_of error ≡ Fault) ⊎ (error_of error ≡ Memory) ⊎ ((refusal : JournalRefusal) × (error_of error ≡ Journal refusal) × Refuses told digest seed refusal)
  unopened_cause (keep.BadSeed kind path) h = absurd h
  unopened_cause keep.DiskFault h = inl refl
  unopened_cause (keep.NotJournal at) h = inr (inr (NotJournal at, refl, h))
  unopened_cause (keep.OtherSeed found) h = inr (inr (OtherSeed found, refl, h))
  unopened_cause (keep.BadRecord at) h = inr (inr (BadRecord at, refl, h))
  unopened_cause keep.Memory h = inr (inl refl)

-- the same of an error that is this one
pub cause_of : (told : Option (List ℕ)) (digest : List ℕ) (seed : Seed) (before after : ℕ) (error : KeepError) (result : DriveError) → result ≡ error_of error → RefusesResume told digest seed before after error
    → (result ≡ Fault) ⊎ (result ≡ Memory) ⊎ ((refusal : JournalRefusal) × (result ≡ Journal refusal) × Refuses told digest seed refusal)
cause_of told digest seed before after error result is h =
    subst (λ e. (e ≡ Fault) ⊎ (e ≡ Memory) ⊎ ((refusal : JournalRefusal) × (e ≡ Journal refusal) × Refuses told digest seed refusal)) (sym is) (unopened_cause told digest seed before after error h)

-- what is no journal for the one is none for the other
foreign_of : (error : KeepError) → IsForeign (error_of error) → IsNoJournal error
foreign_of (keep.BadSeed kind path) h = absurd h
foreign_of keep.DiskFault h = absurd h
foreign_of (keep.NotJournal at) h = h
foreign_of (keep.OtherSeed _) h = h
foreign_of (keep.BadRecord at) h = absurd h
foreign_of keep.Memory h = absurd h

pub foreign_error : (error : KeepError) (result : DriveError) → result ≡ error_of error → IsForeign result → IsNoJournal error
foreign_error error result is h = foreign_of error (subst IsForeign is h)

outside_none : (error : KeepError) → KeepOutside error → IsOfJournal (error_of error) → ⊥
outside_none (keep.BadSeed kind path) h of = of
outside_none keep.DiskFault h of = of
outside_none (keep.NotJournal at) h of = h
outside_none (keep.OtherSeed _) h of = h
outside_none (keep.BadRecord at) h of = h
outside_none keep.Memory h of = of

pub unopened_accepted : (error : KeepError) → KeepOutside error → IsOfJournal (error_of error) → ⊥
unopened_accepted error outside of = outside_none error outside of
