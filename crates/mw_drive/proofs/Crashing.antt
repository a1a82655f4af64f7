-- What a crash leaves of a kept room, and that it is recovered.
use Rattle.std.proofs.Common.{◌≡◌, ◌∙◌, ◌+◌, ◌⊎◌, ℕ, List, [], ◌++◌, take, Option, Some, None, true, refl, sym, ap, subst, inl, inr, arith, append-nil}
use Rattle.std.specs.List.{list_any}
use Rattle.std.specs.Option.{is_some}
use Rattle.std.specs.Prelude.{Ok}
use Rattle.mw_model.specs.Seed.{Seed}
use Rattle.mw_multidata.specs.Digest.{digest_of}
use Rattle.mw_multidata.specs.SeedOf.{SeedOf}
use Rattle.mw_protocol.specs.Lives.{Life, committed_of, left_by, new_life}
use Rattle.mw_protocol.specs.Records.{Record}
use Rattle.mw_protocol.specs.Spelled.{records_bytes}
use Rattle.mw_journal.specs.Image.{StandsAt}
use Rattle.mw_journal.specs.Settled.{AllSettled, AllShut}
use Rattle.mw_journal.proofs.Unique.{one_shut}
use Rattle.mw_keep.specs.Entered.{AreSound}
use Rattle.mw_keep.specs.Keeps.{Keeps, kept_disk}
use Rattle.mw_keep.specs.Recovers.{Recovers}
use Rattle.mw_keep.specs.declared.kept.KeptRoom.{KeptRoom}
use Rattle.mw_keep.specs.declared.error.KeepError.{KeepError}
use Rattle.mw_keep.specs.declared.error.KeepError.TheVariants as keep
use Rattle.mw_keep.specs.Recovers.{IsOutside as KeepOutside}
use Rattle.mw_keep.proofs.Leaving.{committed_records, committed_sound, shut_of}
use Rattle.mw_keep.proofs.OneSeed.{one_seed}
use Rattle.mw_script.specs.Commands.{Command}
use Rattle.mw_drive.specs.Calls.{IsOutside}
use Rattle.mw_drive.specs.Crashes.{error_of}
use Rattle.mw_drive.specs.Drive.{is_crash, life_recovered}
use Rattle.mw_drive.specs.Left.{IsGoing}
use Rattle.mw_drive.specs.Runs.{HasLife, IsOfRun}

-- ---- recovery

-- the journal and the place that are found are those for which the bytes stood
module _ (f digest : List ℕ) (kept found : List Record) (place there : ℕ) where
  pub one_journal : (found ≡ kept) ⊎ (found ≡ kept ++ []) → found ≡ kept
  one_journal (inl same) = same
  one_journal (inr same) = same ∙ append-nil kept

  pub one_place : (text : List ℕ) (gate : ℕ) → StandsAt f digest text there → StandsAt f digest (records_bytes kept) place → there ≡ place
  one_place text gate stands was = (one_shut f digest text (records_bytes kept) there place stands.0 was.0 stands.1 was.1).1

recovered_is : (life : Life) (seed found_seed : Seed) (journal : List Record) (place : ℕ) → life.room.seed ≡ seed → found_seed ≡ seed → journal ≡ committed_of life → place ≡ life.place
    → new_life found_seed journal place ≡ life_recovered life
recovered_is life seed found_seed journal place is same journal_is place_is =
    let none : life.committed ≡ life.committed + 0 = omega arith in
    ap (λ s. new_life s journal place) (same ∙ sym is)
    ∙ ap (λ j. new_life life.room.seed j place) (journal_is ∙ ap (λ n. take n life.room.journal) none)
    ∙ ap (new_life life.room.seed (left_by life 0)) place_is

some_told : (told : Option (List ℕ)) → is_some told ≡ true → (f : List ℕ) × (told ≡ Some f)
some_told None h = cc
some_told (Some f) h = (f, refl)

pub settled_of : (images : List ℕ → Type 0) (digest text body : List ℕ) (place : ℕ) → AllShut images digest text place → AllSettled images digest text body
settled_of images digest text body place shut c image = inl (place, shut c image)

module _ {D : Type 0} (told : D → Option (List ℕ)) (may_leave : D → List ℕ → Type 0) (tells : (d : D) (c : List ℕ) → told d ≡ Some c → may_leave d c)
    (file : List ℕ) (seed : Seed) (life : Life) (before : KeptRoom D) (accepted : SeedOf file (Ok seed)) (keeps : Keeps may_leave (digest_of file) life before)
    (going : IsGoing seed life before) (some : is_some (told (kept_disk before)) ≡ true)
  where
    bytes : (f : List ℕ) × (told (kept_disk before) ≡ Some f)
    bytes = some_told (told (kept_disk before)) some

    shut : AllShut (may_leave (kept_disk before)) (digest_of file) (records_bytes (committed_of life)) life.place
    shut = shut_of may_leave (digest_of file) life before keeps going.whole

    pub recovers_life : (k : KeptRoom D) → Recovers told may_leave file (digest_of file) (kept_disk before) k
        → Keeps may_leave (digest_of file) (life_recovered life) k × IsGoing seed (life_recovered life) k
    recovers_life k r =
        let f = bytes.0 in
        let kept = committed_of life in
        let same = one_seed file r.seed seed r.accepted accepted in
        let journal = one_journal f (digest_of file) kept r.resumes.journal life.place r.resumes.place
        (r.resumes.one f kept [] bytes.1 (committed_records life keeps.records) tt (settled_of (may_leave (kept_disk before)) (digest_of file) (records_bytes kept) [] life.place shut)) in
        let place = one_place f (digest_of file) kept r.resumes.journal life.place r.resumes.place (records_bytes r.resumes.journal) 0
        (r.resumes.stands f bytes.1) (0, shut f (tells (kept_disk before) f bytes.1)) in (
          subst (λ l. Keeps may_leave (digest_of file) l k) (recovered_is life seed r.seed r.resumes.journal r.resumes.place going.seed_is same journal place) r.resumes.keeps,
          record { seed_is = going.seed_is; unstopped = refl; whole = r.resumes.whole },
        )

    -- on these bytes no journal is refused
    pub refused_outside : (error : KeepError) → AreSound seed life.room.journal
        → ((s : Seed) → SeedOf file (Ok s) → (f : List ℕ) (was batch : List Record) → told (kept_disk before) ≡ Some f → AreSound s was → AreSound s batch
        → AllSettled (may_leave (kept_disk before)) (digest_of file) (records_bytes was) (records_bytes batch) → KeepOutside error)
        → IsOutside (error_of error)
    refused_outside error sound h =
        outside error (h seed accepted bytes.0 (committed_of life) [] bytes.1 (committed_sound life seed sound) record { spelled = tt; named = refl }
        (settled_of (may_leave (kept_disk before)) (digest_of file) (records_bytes (committed_of life)) [] life.place shut))
      where
        outside : (e : KeepError) → KeepOutside e → IsOutside (error_of e)
        outside (keep.BadSeed kind path) h = tt
        outside keep.DiskFault h = tt
        outside (keep.NotJournal at) h = absurd h
        outside (keep.OtherSeed found) h = absurd h
        outside (keep.BadRecord at) h = absurd h
        outside keep.Memory h = tt

pub life_of_recovered : {D : Type 0} (told : D → Option (List ℕ)) (may_leave : D → List ℕ → Type 0) (file : List ℕ) (disk : D) (k : KeptRoom D)
    → Recovers told may_leave file (digest_of file) disk k → HasLife may_leave file k
life_of_recovered told may_leave file disk k r = record {
  seed = r.seed;
  life = new_life r.seed r.resumes.journal r.resumes.place;
  accepted = r.accepted;
  keeps = r.resumes.keeps;
  going = record { seed_is = refl; unstopped = refl; whole = r.resumes.whole };
}

-- a crash is refused for the journal or the outside, and for no script
pub crash_ran : (cs : List Command) (error : KeepError) → list_any is_crash cs ≡ true → IsOfRun cs (error_of error)
crash_ran cs (keep.BadSeed kind path) h = tt
crash_ran cs keep.DiskFault h = tt
crash_ran cs (keep.NotJournal at) h = h
crash_ran cs (keep.OtherSeed found) h = h
crash_ran cs (keep.BadRecord at) h = h
crash_ran cs keep.Memory h = tt
