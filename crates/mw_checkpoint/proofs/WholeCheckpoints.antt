-- What the three calls of a checkpoint leave of the files together.
use Rattle.std.proofs.Common.{◌≡◌, ◌∙◌, ◌⊎◌, ◌≤◌, ◌++◌, inl, inr, ℕ, List, Bool, true, false, Option, Contains, refl, sym, ap, ap₂, subst, arith}
use Rattle.std.specs.Prelude.{◌==◌, if◌then◌else◌}
use Rattle.mw_disk.specs.Crash.{LeavesOnly}
use Rattle.mw_protocol.specs.Records.{Record}
use Rattle.mw_protocol.specs.Spelled.{records_bytes}
use Rattle.mw_journal.specs.Image.{IsShut, Stands}
use Rattle.mw_journal.specs.Settled.{IsSettled, AllSettled}
use Rattle.mw_journal.proofs.Unique.{settled_text}
use Rattle.mw_thinning.specs.Thinning.{thinned}
use Rattle.mw_checkpoint.specs.Checkpointing.{AllStandForOne, AreSettled, HasSettled, StandForOne}
use Rattle.mw_checkpoint.specs.Choices.{AreChoices, named_in}
use Rattle.mw_checkpoint.specs.Chosen.{ReadsChoice}
use Rattle.mw_checkpoint.specs.Created.{OnEach}
use Rattle.mw_checkpoint.specs.Pair.{HoldsText, IsPrepared, Made, PairStands, journal_at, other_of, pick}
use Rattle.mw_checkpoint.specs.Switching.{RefusesSwitch}
use Rattle.mw_checkpoint.specs.Whole.{AreRecords}
use Rattle.mw_checkpoint.specs.declared.error.PairError.{PairError}
use Rattle.mw_checkpoint.specs.declared.error.PairError.TheVariants.{DiskFault, NotEmpty, NotJournal, OtherSeed, BadChoice, BadRecord, ChoiceFull, Memory}
use Rattle.mw_checkpoint.specs.declared.files.Files.{Files}
use Rattle.mw_checkpoint.proofs.Carrying.{KeepsSettled}
use Rattle.mw_checkpoint.proofs.HeldTexts.{settled_stands}
use Rattle.mw_checkpoint.proofs.Naming.{choices_joined}
use Rattle.mw_checkpoint.proofs.Pairing.{picked}
use Rattle.mw_checkpoint.proofs.Spelt.{bytes_joined, one_parse}

module _ {D : Type 0} (told : D → Option (List ℕ)) (may_leave : D → List ℕ → Type 0) (moment : D → ℕ) (left_since : D → ℕ → List ℕ → Type 0)
    (counts : (d : D) (t : ℕ) (c : List ℕ) → t ≤ moment d → may_leave d c → left_since d t c) (digest : List ℕ) (allowed : List (List Record))
  where
    -- an image now is one since a call began
    pub still : (before after : D) (text body : List ℕ) → LeavesOnly moment left_since before after (λ c. IsSettled c digest text body) → AllSettled (may_leave after) digest text body
    still before after text body run c left = run.each c (counts after (moment before) c run.later left)

    pub still_settled : (before after : D) → KeepsSettled may_leave moment left_since digest before after → HasSettled (may_leave before) digest allowed → HasSettled (may_leave after) digest allowed
    still_settled before after keeps h = record {
      kept = h.kept;
      batch = h.batch;
      spelled = h.spelled;
      front = h.front;
      settled = still before after (records_bytes h.kept) (records_bytes h.batch) (keeps (records_bytes h.kept) (records_bytes h.batch) h.settled);
      first = h.first;
      both = h.both;
    }

    -- CHOICE names a journal that is settled
    one_stands : (images : List ℕ → Type 0) → HasSettled images digest allowed → (text c first second : List ℕ) → Stands c digest text → AreChoices text
        → images (pick (named_in text) first second) → StandForOne digest allowed c first second
    one_stands images h text c first second names choices image =
        let own = pick (named_in text) first second in
        elim (settled_stands own digest (records_bytes h.kept) (records_bytes h.batch) (h.settled own image)) [
          | inl one ↦ record {
            records = h.kept;
            is_allowed = h.first;
            stand = inl record { text = text; names = names; choices = choices; stands = one };
          }
          | inr both ↦ record {
            records = h.kept ++ h.batch;
            is_allowed = h.both;
            stand = inl record { text = text; names = names; choices = choices; stands = subst (Stands own digest) (sym (bytes_joined h.kept h.batch)) both };
          }
        ]

    -- what a settled journal holds is allowed
    held_allowed : (images : List ℕ → Type 0) → HasSettled images digest allowed → (records : List Record) (image : List ℕ) (place : ℕ) → AreRecords records → images image
        → IsShut image digest (records_bytes records) place 0 → Contains allowed records
    held_allowed images h records image place spelled is shut =
        elim (settled_text image digest (records_bytes h.kept) (records_bytes h.batch) (records_bytes records) place 0 (h.settled image is) shut) [
          | inl one ↦ subst (Contains allowed) (sym (one_parse records h.kept spelled h.front one)) h.first
          | inr both ↦ subst (Contains allowed) (sym (one_parse records (h.kept ++ h.batch) spelled h.spelled (both ∙ sym (bytes_joined h.kept h.batch)))) h.both
        ]

    -- ---- before a switch is prepared

    -- the journals are as they were
    pub kept_settled : (before after : Files D) → after.zero ≡ before.zero → after.one ≡ before.one → KeepsSettled may_leave moment left_since digest before.choice after.choice
        → AreSettled told may_leave digest before allowed → AllStandForOne may_leave digest after allowed
    kept_settled before after zero one keeps s c first second left here there =
        elim (settled_stands c digest s.stand.text s.stand.body (still before.choice after.choice s.stand.text s.stand.body (keeps s.stand.text s.stand.body s.stand.choice) c left)) [
          | inl text ↦ at s.stand.text (inl refl) text s.stand.texts
          | inr both ↦ at (s.stand.text ++ s.stand.body) (inr refl) both (choices_joined s.stand.text s.stand.body s.stand.texts s.stand.bodies)
        ]
      where
        at : (text : List ℕ) → (named_in text ≡ named_in s.stand.text) ⊎ (named_in text ≡ named_in (s.stand.text ++ s.stand.body)) → Stands c digest text → AreChoices text → StandForOne digest allowed c first second
        at text names stands choices =
            one_stands (may_leave (journal_at (named_in text) before)) (s.stand.journals (named_in text) names) text c first second stands choices
            (picked may_leave (named_in text) before first second (subst (λ d. may_leave d first) zero here) (subst (λ d. may_leave d second) one there))

    -- the journal that CHOICE names, once it was opened
    pub chosen_settled : (before after : Files D) (named : ℕ) → after.zero ≡ before.zero → after.one ≡ before.one → (r : ReadsChoice told may_leave digest before.choice after.choice named)
        → AreSettled told may_leave digest before allowed → HasSettled (may_leave (journal_at named after)) digest allowed
    chosen_settled before after named zero one r s =
        subst (λ d. HasSettled (may_leave d) digest allowed) (ap₂ (λ (a b : D). pick named a b) (sym zero) (sym one)) (s.stand.journals named (names (r.one s.bytes s.stand.text s.stand.body s.tells s.stand.choice)))
      where
        names : (r.chosen.text ≡ s.stand.text) ⊎ (r.chosen.text ≡ s.stand.text ++ s.stand.body) → (named ≡ named_in s.stand.text) ⊎ (named ≡ named_in (s.stand.text ++ s.stand.body))
        names (inl is) = inl (r.chosen.last ∙ ap named_in is)
        names (inr is) = inr (r.chosen.last ∙ ap named_in is)

    -- CHOICE is as it was opened
    pub kept_chosen : (before opened after : Files D) (named : ℕ) → opened.zero ≡ before.zero → opened.one ≡ before.one → ReadsChoice told may_leave digest before.choice opened.choice named
        → after.choice ≡ opened.choice → KeepsSettled may_leave moment left_since digest (journal_at named opened) (journal_at named after)
        → AreSettled told may_leave digest before allowed → AllStandForOne may_leave digest after allowed
    kept_chosen before opened after named zero one r choice keeps s c first second left here there =
        let h = still_settled (journal_at named opened) (journal_at named after) keeps (chosen_settled before opened named zero one r s) in
        one_stands (may_leave (journal_at named after)) h r.chosen.text c first second (r.chosen.place, (0, r.chosen.shut c (subst (λ d. may_leave d c) choice left))) r.chosen.choices
        (subst (λ n. may_leave (journal_at named after) (pick n first second)) r.chosen.last (picked may_leave named after first second here there))

    -- ---- once it is prepared

    -- the files of a switch that was prepared, whose journals are as they were
    module _ (before opened : Files D) (named : ℕ) (zero : opened.zero ≡ before.zero) (one : opened.one ≡ before.one) (r : ReadsChoice told may_leave digest before.choice opened.choice named)
        (made : Made D) (records : List Record) (prepared : IsPrepared may_leave r.chosen.text records made) (same : made.digest ≡ digest)
        (keeps : KeepsSettled may_leave moment left_since digest (journal_at named opened) (journal_at named made.files))
        (after : Files D) (left_zero : after.zero ≡ made.files.zero) (left_one : after.one ≡ made.files.one)
      where
        read_allowed : AreSettled told may_leave digest before allowed → (first second : List ℕ) → may_leave after.zero first → may_leave after.one second → Contains allowed records
        read_allowed s first second here there =
            let h = still_settled (journal_at named opened) (journal_at named made.files) keeps (chosen_settled before opened named zero one r s) in
            let image = picked may_leave named made.files first second (subst (λ d. may_leave d first) left_zero here) (subst (λ d. may_leave d second) left_one there) in
            let held = subst (λ n. HoldsText may_leave made.digest (records_bytes records) (journal_at n made.files)) (sym r.chosen.last) prepared.chosen in
            held_allowed (may_leave (journal_at named made.files)) h records (pick named first second) held.0 prepared.spelled image
            (subst (λ d. IsShut (pick named first second) d (records_bytes records) held.0 0) same (held.1 (pick named first second) image))

        -- CHOICE may name either journal, or the other one alone
        abbrev NamesEither : Type 0
        NamesEither =
            (c first second : List ℕ) → may_leave after.choice c → may_leave made.files.zero first → may_leave made.files.one second
            → PairStands c first second made.digest records ⊎ PairStands c first second made.digest (thinned records)

        pub kept_prepared : NamesEither → AreSettled told may_leave digest before allowed → AllStandForOne may_leave digest after allowed
        kept_prepared either s c first second left here there = record {
          records = records;
          is_allowed = read_allowed s first second here there;
          stand = subst (λ d. PairStands c first second d records ⊎ PairStands c first second d (thinned records)) same
              (either c first second left (subst (λ d. may_leave d first) left_zero here) (subst (λ d. may_leave d second) left_one there));
        }

-- counts of faults, of the journals by their numbers
each_later : {D : Type 0} (faults : D → ℕ) (named : ℕ) (before opened after : Files D) → faults before.choice ≤ faults after.choice → opened.zero ≡ before.zero → opened.one ≡ before.one
    → faults (journal_at named opened) ≤ faults (journal_at named after) → faults (journal_at (other_of named) opened) ≤ faults (journal_at (other_of named) after)
    → OnEach (λ b a. faults b ≤ faults a) before after
each_later faults named before opened after choice zero one own other = record {
  choice = choice;
  first = subst (λ d. faults d ≤ faults after.zero) zero (by_first (named == 0) refl own other);
  second = subst (λ d. faults d ≤ faults after.one) one (by_second (named == 0) refl own other);
}
  where
    by_first : (b : Bool) → (named == 0) ≡ b → faults (journal_at named opened) ≤ faults (journal_at named after) → faults (journal_at (other_of named) opened) ≤ faults (journal_at (other_of named) after)
        → faults opened.zero ≤ faults after.zero
    by_first true is own other = subst (λ (b : Bool). faults (if b then opened.zero else opened.one) ≤ faults (if b then after.zero else after.one)) is own
    by_first false is own other =
        subst (λ (b : Bool). faults (pick (if b then 1 else 0) opened.zero opened.one) ≤ faults (pick (if b then 1 else 0) after.zero after.one)) is other

    by_second : (b : Bool) → (named == 0) ≡ b → faults (journal_at named opened) ≤ faults (journal_at named after) → faults (journal_at (other_of named) opened) ≤ faults (journal_at (other_of named) after)
        → faults opened.one ≤ faults after.one
    by_second true is own other =
        subst (λ (b : Bool). faults (pick (if b then 1 else 0) opened.zero opened.one) ≤ faults (pick (if b then 1 else 0) after.zero after.one)) is other
    by_second false is own other = subst (λ (b : Bool). faults (if b then opened.zero else opened.one) ≤ faults (if b then after.zero else after.one)) is own

-- once CHOICE was appended to
pub counted : {D : Type 0} (faults : D → ℕ) (named : ℕ) (before opened made after : Files D) → faults before.choice ≤ faults opened.choice → opened.zero ≡ before.zero → opened.one ≡ before.one
    → made.choice ≡ opened.choice → faults (journal_at named opened) ≤ faults (journal_at named made) → faults (journal_at (other_of named) opened) ≤ faults (journal_at (other_of named) made)
    → faults made.choice ≤ faults after.choice → after.zero ≡ made.zero → after.one ≡ made.one → OnEach (λ b a. faults b ≤ faults a) before after
counted faults named before opened made after first zero one choice own other last left_zero left_one =
    let start : faults before.choice ≤ faults made.choice = subst (λ d. faults before.choice ≤ faults d) (sym choice) first in
    let each = each_later faults named before opened made start zero one own other in record {
      choice = omega (arith, start, last);
      first = subst (λ d. faults before.zero ≤ faults d) (sym left_zero) each.first;
      second = subst (λ d. faults before.one ≤ faults d) (sym left_one) each.second;
    }

-- a count that rose since later has risen since
pub refuses_since : (told : Option (List ℕ)) (digest : List ℕ) (before middle after : ℕ) (error : PairError) → before ≤ middle → RefusesSwitch told digest middle after error
    → RefusesSwitch told digest before after error
refuses_since told digest before middle after (DiskFault place) less r = let rose = r.1 in (r.0, omega (arith, less, rose))
refuses_since told digest before middle after (NotEmpty place) less r = r
refuses_since told digest before middle after (NotJournal place at) less r = r
refuses_since told digest before middle after (OtherSeed place found) less r = r
refuses_since told digest before middle after (BadChoice at) less r = r
refuses_since told digest before middle after (BadRecord at) less r = r
refuses_since told digest before middle after (ChoiceFull len) less r = r
refuses_since told digest before middle after Memory less r = r
