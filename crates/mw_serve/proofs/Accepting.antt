-- What runs on a pair room leave is refused by no later run.
use Rattle.std.proofs.Common.{◌≡◌, ◌⊎◌, ◌∙◌, ℕ, zero, suc, List, [], ◌∷◌, ◌++◌, ◌+◌, Option, Some, inl, inr, refl, sym, subst, take}
use Rattle.std.proofs.lemmas.Bool.{and_from, and_parts, cond_both}
use Rattle.std.specs.Prelude.{IsTrue}
use Rattle.mw_checkpoint.specs.Choices.{AreChoices}
use Rattle.mw_checkpoint.specs.Preparing.{RefusesReading, RefusesWriting}
use Rattle.mw_checkpoint.specs.Refused.{RefusesChosen}
use Rattle.mw_checkpoint.specs.Switching.{IsOutsideOrFull}
use Rattle.mw_checkpoint.specs.Whole.{AreRecords, IsBadText}
use Rattle.mw_checkpoint.specs.declared.error.PairError.{PairError}
use Rattle.mw_checkpoint.specs.declared.error.PairError.TheVariants.{DiskFault, NotEmpty, NotJournal, OtherSeed, BadChoice, BadRecord, ChoiceFull, Memory}
use Rattle.mw_checkpoint.proofs.Naming.{choices_joined, no_bad_byte}
use Rattle.mw_checkpoint.proofs.Spelt.{both_records, bytes_joined}
use Rattle.mw_drive.specs.Ends.{Refuses}
use Rattle.mw_drive.specs.declared.error.JournalRefusal.{JournalRefusal}
use Rattle.mw_drive.specs.declared.error.JournalRefusal.TheVariants as refused
use Rattle.mw_journal.specs.Image.{Stands}
use Rattle.mw_journal.specs.Settled.{IsSettled}
use Rattle.mw_journal.specs.declared.error.OpenError.TheVariants as open_error
use Rattle.mw_journal.proofs.Excluded.{settled_opens}
use Rattle.mw_journal.proofs.Unique.{settled_text}
use Rattle.mw_keep.specs.Entered.{AreSound}
use Rattle.mw_keep.specs.declared.error.KeepError.TheVariants as keep_error
use Rattle.mw_keep.proofs.Parsing.{front_parse}
use Rattle.mw_keep.proofs.Resuming.{outside_text}
use Rattle.mw_laws.specs.Naming.{JournalsAreNamed, NamesFit}
use Rattle.mw_model.specs.Seed.{Seed}
use Rattle.mw_offline.proofs.Keeping.{plain_seed}
use Rattle.mw_pair.specs.Folders.{IsOpening}
use Rattle.mw_protocol.specs.Lives as lives
use Rattle.mw_protocol.specs.Lives.{Life, left_by, new_life}
use Rattle.mw_protocol.specs.Named.{are_named, is_named}
use Rattle.mw_protocol.specs.Records.{Record}
use Rattle.mw_protocol.specs.Spelled.{records_bytes}
use Rattle.mw_thinning.specs.Checkpoints.{Step, goes, thins, after, after_all, life_after_all}
use Rattle.mw_thinning.specs.Thinning.{is_outdone, thinned}

-- ---- records that name only what the seed has

front_named : (seed : Seed) (n : ℕ) (rs : List Record) → IsTrue (are_named seed rs) → IsTrue (are_named seed (take n rs))
front_named seed zero rs h = refl
front_named seed (suc n) [] h = refl
front_named seed (suc n) (r ∷ rs) h =
    let parts = and_parts (is_named seed r) (are_named seed rs) h in
    and_from (is_named seed r) (are_named seed (take n rs)) parts.0 (front_named seed n rs parts.1)

pub back_named : (seed : Seed) (xs ys : List Record) → IsTrue (are_named seed (xs ++ ys)) → IsTrue (are_named seed ys)
back_named seed [] ys h = h
back_named seed (x ∷ xs) ys h = back_named seed xs ys (and_parts (is_named seed x) (are_named seed (xs ++ ys)) h).1

-- each that counts is one of them
thinned_named : (seed : Seed) (rs : List Record) → IsTrue (are_named seed rs) → IsTrue (are_named seed (thinned rs))
thinned_named seed [] h = refl
thinned_named seed (r ∷ rs) h =
    let parts = and_parts (is_named seed r) (are_named seed rs) h in
    let rest = thinned_named seed rs parts.1 in
    cond_both (is_outdone r rs) (thinned rs) (r ∷ thinned rs) (λ left. IsTrue (are_named seed left)) (λ _. rest)
    (λ _. and_from (is_named seed r) (are_named seed (thinned rs)) parts.0 rest)

module _ (naming : JournalsAreNamed) (seed : Seed) (fit : NamesFit seed) where
  -- of a life, whatever comes until the next checkpoint
  record StaysNamed (life : Life) : Type 0 where
    same : life.room.seed ≡ seed
    named : (run : List lives.Step) → IsTrue (are_named seed (lives.after_all life run).room.journal)

  new_named : (of : Seed) → of ≡ seed → (journal : List Record) (place : ℕ) → IsTrue (are_named seed journal) → StaysNamed (new_life of journal place)
  new_named of same journal place named = record {
    same = same;
    named = λ run. subst (λ e. IsTrue (are_named seed (lives.after_all (new_life e journal place) run).room.journal)) (sym same) (naming.anywhere seed journal place run fit named);
  }

  step_named : (life : Life) (s : Step) → StaysNamed life → StaysNamed (after life s)
  step_named life (goes s) h = record { same = plain_seed life (s ∷ []) ∙ h.same; named = λ run. h.named (s ∷ run) }
  step_named life (thins more place) h =
      new_named life.room.seed h.same (thinned (left_by life more)) place
      (thinned_named seed (left_by life more) (front_named seed (life.committed + more) life.room.journal (h.named [])))

  all_named : (life : Life) (steps : List Step) → StaysNamed life → StaysNamed (after_all life steps)
  all_named life [] h = h
  all_named life (s ∷ ss) h = all_named (after life s) ss (step_named life s h)

  -- so it is with what a crash leaves, over any lives with checkpoints between them
  pub left_named : (steps : List Step) (more : ℕ) → IsTrue (are_named seed (left_by (life_after_all seed steps) more))
  left_named steps more =
      let life = life_after_all seed steps in
      let h = all_named (new_life seed [] 40) steps (new_named seed refl [] 40 refl) in
      front_named seed (life.committed + more) life.room.journal (h.named [])

-- ---- bytes that are settled

-- a text of records has no bad place
no_bad_text : (records : List Record) → AreRecords records → (text : List ℕ) → text ≡ records_bytes records → (at : ℕ) → IsBadText text at → ⊥
no_bad_text records spelled text is at bad =
    let more = front_parse bad.before records bad.rest bad.records spelled (sym bad.layout ∙ is) in
    none_here more.0 more.2 more.3
  where
    none_here : (tail : List Record) → bad.rest ≡ records_bytes tail → AreRecords tail → ⊥
    none_here [] here h = bad.some here
    none_here (r ∷ rs) here h = bad.bad r (records_bytes rs) h.0 here

pub opening_outside : (error : PairError) → IsOpening error → IsOutsideOrFull error
opening_outside (DiskFault place) is = tt
opening_outside (NotEmpty place) is = is
opening_outside (NotJournal place at) is = is
opening_outside (OtherSeed place found) is = is
opening_outside (BadChoice at) is = is
opening_outside (BadRecord at) is = is
opening_outside (ChoiceFull len) is = tt
opening_outside Memory is = tt

-- a file that tells its bytes, which are settled for a text and a batch
module _ (told : Option (List ℕ)) (f digest text body : List ℕ) (is : told ≡ Some f) (settled : IsSettled f digest text body) where
  -- it stands for one of two texts
  pub one_text : (t : List ℕ) → Stands f digest t → (t ≡ text) ⊎ (t ≡ text ++ body)
  one_text t stands = settled_text f digest text body t stands.0 stands.1.0 settled stands.1.1

  -- CHOICE is refused for nothing that stands in it
  pub choice_accepted : AreChoices text → AreChoices body → (was now : ℕ) (error : PairError) → RefusesChosen told digest was now error → IsOpening error
  choice_accepted texts bodies was now (DiskFault place) r = tt
  choice_accepted texts bodies was now (NotEmpty place) r = r
  choice_accepted texts bodies was now (NotJournal place at) r = settled_opens told f digest text body was now (open_error.NotJournal at) is settled r.1
  choice_accepted texts bodies was now (OtherSeed place found) r = settled_opens told f digest text body was now (open_error.OtherSeed found) is settled r.1
  choice_accepted texts bodies was now (BadChoice at) r =
      let bad = r f is in
      let choices : AreChoices bad.0 = elim (one_text bad.0 bad.1) [
        | inl one ↦ subst AreChoices (sym one) texts
        | inr both ↦ subst AreChoices (sym both) (choices_joined text body texts bodies)
      ] in
      no_bad_byte bad.0 at choices bad.2.within bad.2.bad
  choice_accepted texts bodies was now (BadRecord at) r = r
  choice_accepted texts bodies was now (ChoiceFull len) r = r
  choice_accepted texts bodies was now Memory r = tt

-- a journal's
module _ (told : Option (List ℕ)) (f digest : List ℕ) (kept batch : List Record) (is : told ≡ Some f) (settled : IsSettled f digest (records_bytes kept) (records_bytes batch)) where
  -- to be played
  pub journal_accepted : (seed : Seed) → AreSound seed kept → AreSound seed batch → (refusal : JournalRefusal) → Refuses told digest seed refusal → ⊥
  journal_accepted seed sound more (refused.NotJournal at) r = settled_opens told f digest (records_bytes kept) (records_bytes batch) 0 0 (open_error.NotJournal at) is settled r
  journal_accepted seed sound more (refused.OtherSeed found) r = settled_opens told f digest (records_bytes kept) (records_bytes batch) 0 0 (open_error.OtherSeed found) is settled r
  journal_accepted seed sound more (refused.BadRecord at) r =
      let bad = r f is in
      outside_text seed bad.0 kept batch (keep_error.BadRecord at) sound more (one_text told f digest (records_bytes kept) (records_bytes batch) is settled bad.0 bad.1) bad.2

  -- to be thinned
  pub reading_accepted : AreRecords kept → AreRecords batch → (place was now : ℕ) (error : PairError) → RefusesReading place told digest was now error → IsOutsideOrFull error
  reading_accepted first more here was now (DiskFault place) r = tt
  reading_accepted first more here was now (NotEmpty place) r = r
  reading_accepted first more here was now (NotJournal place at) r =
      settled_opens told f digest (records_bytes kept) (records_bytes batch) was now (open_error.NotJournal at) is settled r.1
  reading_accepted first more here was now (OtherSeed place found) r =
      settled_opens told f digest (records_bytes kept) (records_bytes batch) was now (open_error.OtherSeed found) is settled r.1
  reading_accepted first more here was now (BadChoice at) r = r
  reading_accepted first more here was now (BadRecord at) r =
      let bad = r f is in
      elim (one_text told f digest (records_bytes kept) (records_bytes batch) is settled bad.0 bad.1) [
        | inl one ↦ no_bad_text kept first bad.0 one at bad.2
        | inr both ↦ no_bad_text (kept ++ batch) (both_records kept batch first more) bad.0 (both ∙ sym (bytes_joined kept batch)) at bad.2
      ]
  reading_accepted first more here was now (ChoiceFull len) r = tt
  reading_accepted first more here was now Memory r = tt

-- and the other one is written, where it tells its bytes
pub writing_accepted : (told : Option (List ℕ)) (f : List ℕ) → told ≡ Some f → (place was now : ℕ) (error : PairError) → RefusesWriting place told was now error → IsOutsideOrFull error
writing_accepted told f is here was now (DiskFault place) r = tt
writing_accepted told f is here was now (NotEmpty place) r = r.1 f is
writing_accepted told f is here was now (NotJournal place at) r = r
writing_accepted told f is here was now (OtherSeed place found) r = r
writing_accepted told f is here was now (BadChoice at) r = r
writing_accepted told f is here was now (BadRecord at) r = r
writing_accepted told f is here was now (ChoiceFull len) r = tt
writing_accepted told f is here was now Memory r = tt
