-- What a checkpoint leaves of the files is settled again, for records that were allowed or what counts of such.
use Rattle.std.proofs.Common.{◌≡◌, ◌∙◌, ◌⊎◌, ◌≤◌, ◌++◌, ◌∷◌, [], inl, inr, ℕ, List, Bool, true, false, cond, Option, Some, None, Contains, is_some, map, refl, sym, ap, ap₂, subst, arith}
use Rattle.std.proofs.lemmas.List.{append-nil}
use Rattle.std.proofs.lemmas.List.Elements.{All-cons, All-contains, All-nil, Contains-append_left, Contains-append_right}
use Rattle.std.specs.Prelude.{All, slice_index_or}
use Rattle.mw_disk.specs.Crash.{LeavesOnly}
use Rattle.mw_protocol.specs.Records.{Record}
use Rattle.mw_protocol.specs.Spelled.{records_bytes}
use Rattle.mw_journal.specs.Settled.{AllSettled, IsSettled}
use Rattle.mw_thinning.specs.Thinning.{is_outdone, thinned}
use Rattle.mw_checkpoint.specs.Checkpointing.{AreSettled, HasSettled, JournalsTell, MayStand, with_thinned}
use Rattle.mw_checkpoint.specs.Choices.{AreChoices, named_in}
use Rattle.mw_checkpoint.specs.Chosen.{ReadsChoice}
use Rattle.mw_checkpoint.specs.Pair.{HoldsText, IsPrepared, Made, journal_at, other_of, pick}
use Rattle.mw_checkpoint.specs.Whole.{AreRecords}
use Rattle.mw_checkpoint.specs.declared.files.Files.{Files}
use Rattle.mw_checkpoint.proofs.Carrying.{KeepsSettled}
use Rattle.mw_checkpoint.proofs.HeldTexts.{held_settled}
use Rattle.mw_checkpoint.proofs.Pairing.{named_last, other_small}
use Rattle.mw_checkpoint.proofs.Spelt.{both_records, bytes_joined, one_parse}
use Rattle.mw_checkpoint.proofs.WholeCheckpoints.{chosen_settled, still, still_settled}

-- ---- lists

mapped : {X Y : Type 0} (f : X → Y) (xs : List X) → All (λ x. Contains (map f xs) (f x)) xs
mapped f [] = All-nil (λ x. Contains [] (f x))
mapped f (x ∷ xs) =
    let rest = mapped f xs in
    All-cons (λ y. Contains (map f (x ∷ xs)) (f y)) x xs (0, omega arith, refl) (λ k d lt. Contains-append_right (f x ∷ []) (map f xs) (f (slice_index_or xs k d)) (rest k d lt))

contains_map : {X Y : Type 0} (f : X → Y) (xs : List X) (x : X) → Contains xs x → Contains (map f xs) (f x)
contains_map f xs x has = All-contains (λ y. Contains (map f xs) (f y)) xs x (mapped f xs) has

-- what counts of records are records
thinned_records : (records : List Record) → AreRecords records → AreRecords (thinned records)
thinned_records [] h = tt
thinned_records (r ∷ rs) h = by (is_outdone r rs) (thinned_records rs h.1)
  where
    by : (b : Bool) → AreRecords (thinned rs) → AreRecords (cond b (thinned rs) (r ∷ thinned rs))
    by true rest = rest
    by false rest = (h.0, rest)

some_told : (told : Option (List ℕ)) → is_some told ≡ true → (f : List ℕ) × (told ≡ Some f)
some_told None h = cc
some_told (Some f) h = (f, refl)

-- a disk that holds the text of records that are allowed
held_has : {D : Type 0} (may_leave : D → List ℕ → Type 0) (digest : List ℕ) (allowed : List (List Record)) (records : List Record) (d : D) → AreRecords records → Contains allowed records
    → HoldsText may_leave digest (records_bytes records) d → HasSettled (may_leave d) digest allowed
held_has may_leave digest allowed records d spelled has held = record {
  kept = records;
  batch = [];
  spelled = both_records records [] spelled tt;
  front = spelled;
  settled = held_settled may_leave digest (records_bytes records) [] d held;
  first = has;
  both = subst (Contains allowed) (sym (append-nil records)) has;
}

module _ {D : Type 0} (told : D → Option (List ℕ)) (may_leave : D → List ℕ → Type 0) (moment : D → ℕ) (left_since : D → ℕ → List ℕ → Type 0)
    (counts : (d : D) (t : ℕ) (c : List ℕ) → t ≤ moment d → may_leave d c → left_since d t c) (digest : List ℕ) (allowed : List (List Record))
  where
    has_more : (images : List ℕ → Type 0) → HasSettled images digest allowed → HasSettled images digest (with_thinned allowed)
    has_more images h = record {
      kept = h.kept;
      batch = h.batch;
      spelled = h.spelled;
      front = h.front;
      settled = h.settled;
      first = Contains-append_left allowed (map thinned allowed) h.kept h.first;
      both = Contains-append_left allowed (map thinned allowed) (h.kept ++ h.batch) h.both;
    }

    -- CHOICE was refused, and the journals are as they were
    pub stand_settled : (before after : Files D) → after.zero ≡ before.zero → after.one ≡ before.one → KeepsSettled may_leave moment left_since digest before.choice after.choice
        → AreSettled told may_leave digest before allowed → MayStand may_leave digest after (with_thinned allowed)
    stand_settled before after zero one keeps s = record {
      text = s.stand.text;
      body = s.stand.body;
      choice = still told may_leave moment left_since counts digest allowed before.choice after.choice s.stand.text s.stand.body (keeps s.stand.text s.stand.body s.stand.choice);
      texts = s.stand.texts;
      bodies = s.stand.bodies;
      journals = λ named is. subst (λ d. HasSettled (may_leave d) digest (with_thinned allowed)) (ap₂ (λ (a b : D). pick named a b) (sym zero) (sym one)) (has_more (may_leave (journal_at named before)) (s.stand.journals named is));
    }

    -- the other journal wasn't written, and CHOICE is as it was opened
    pub stand_chosen : (before opened after : Files D) (named : ℕ) → opened.zero ≡ before.zero → opened.one ≡ before.one → ReadsChoice told may_leave digest before.choice opened.choice named
        → after.choice ≡ opened.choice → KeepsSettled may_leave moment left_since digest (journal_at named opened) (journal_at named after)
        → AreSettled told may_leave digest before allowed → MayStand may_leave digest after (with_thinned allowed)
    stand_chosen before opened after named zero one r choice keeps s = record {
      text = r.chosen.text;
      body = [];
      choice = λ c image. inl (r.chosen.place, r.chosen.shut c (subst (λ d. may_leave d c) choice image));
      texts = r.chosen.choices;
      bodies = tt;
      journals = λ n is. subst (λ m. HasSettled (may_leave (journal_at m after)) digest (with_thinned allowed)) (r.chosen.last ∙ sym (same n is)) has;
    }
      where
        has : HasSettled (may_leave (journal_at named after)) digest (with_thinned allowed)
        has = has_more (may_leave (journal_at named after))
            (still_settled told may_leave moment left_since counts digest allowed (journal_at named opened) (journal_at named after) keeps (chosen_settled told may_leave moment left_since counts digest allowed before opened named zero one r s))

        same : (n : ℕ) → (n ≡ named_in r.chosen.text) ⊎ (n ≡ named_in (r.chosen.text ++ [])) → n ≡ named_in r.chosen.text
        same n (inl is) = is
        same n (inr is) = is ∙ ap named_in (append-nil r.chosen.text)

    -- a switch was prepared, and maybe made
    module _ (before opened : Files D) (named : ℕ) (zero : opened.zero ≡ before.zero) (one : opened.one ≡ before.one) (r : ReadsChoice told may_leave digest before.choice opened.choice named)
        (made : Made D) (records : List Record) (prepared : IsPrepared may_leave r.chosen.text records made) (same : made.digest ≡ digest)
        (reads : (f text body : List ℕ) → told (journal_at named opened) ≡ Some f → AllSettled (may_leave (journal_at named opened)) digest text body → (records_bytes records ≡ text) ⊎ (records_bytes records ≡ text ++ body))
        (after : Files D) (left_zero : after.zero ≡ made.files.zero) (left_one : after.one ≡ made.files.one)
        (run : LeavesOnly moment left_since made.files.choice after.choice (λ c. IsSettled c made.digest r.chosen.text (made.other ∷ [])))
        (s : AreSettled told may_leave digest before allowed) (some : JournalsTell told before)
      where
        read_allowed : Contains allowed records
        read_allowed =
            let h = chosen_settled told may_leave moment left_since counts digest allowed before opened named zero one r s in
            let own : journal_at named opened ≡ journal_at named before = ap₂ (λ (a b : D). pick named a b) zero one in
            let f = some_told (told (journal_at named opened)) (ap (λ d. is_some (told d)) own ∙ some named) in
            elim (reads f.0 (records_bytes h.kept) (records_bytes h.batch) f.1 h.settled) [
              | inl is ↦ subst (Contains allowed) (sym (one_parse records h.kept prepared.spelled h.front is)) h.first
              | inr is ↦ subst (Contains allowed) (sym (one_parse records (h.kept ++ h.batch) prepared.spelled h.spelled (is ∙ sym (bytes_joined h.kept h.batch)))) h.both
            ]

        left_as : (n : ℕ) → journal_at n made.files ≡ journal_at n after
        left_as n = ap₂ (λ (a b : D). pick n a b) (sym left_zero) (sym left_one)

        of_text : HasSettled (may_leave (journal_at (named_in r.chosen.text) after)) digest (with_thinned allowed)
        of_text = held_has may_leave digest (with_thinned allowed) records (journal_at (named_in r.chosen.text) after) prepared.spelled (Contains-append_left allowed (map thinned allowed) records read_allowed)
            (subst (HoldsText may_leave digest (records_bytes records)) (left_as (named_in r.chosen.text))
            (subst (λ d. HoldsText may_leave d (records_bytes records) (journal_at (named_in r.chosen.text) made.files)) same prepared.chosen))

        of_other : HasSettled (may_leave (journal_at (other_of (named_in r.chosen.text)) after)) digest (with_thinned allowed)
        of_other =
            held_has may_leave digest (with_thinned allowed) (thinned records) (journal_at (other_of (named_in r.chosen.text)) after) (thinned_records records prepared.spelled)
            (Contains-append_right allowed (map thinned allowed) (thinned records) (contains_map thinned allowed records read_allowed))
            (subst (HoldsText may_leave digest (records_bytes (thinned records))) (left_as (other_of (named_in r.chosen.text)))
            (subst (λ d. HoldsText may_leave d (records_bytes (thinned records)) (journal_at (other_of (named_in r.chosen.text)) made.files)) same prepared.thin))

        pub stand_prepared : MayStand may_leave digest after (with_thinned allowed)
        stand_prepared = record {
          text = r.chosen.text;
          body = made.other ∷ [];
          choice = λ c image. subst (λ d. IsSettled c d r.chosen.text (made.other ∷ [])) same (run.each c (counts after.choice (moment made.files.choice) c run.later image));
          texts = r.chosen.choices;
          bodies = subst (λ n. AreChoices (n ∷ [])) (sym prepared.other) (other_small (named_in r.chosen.text), tt);
          journals = λ n is. elim is [
            | inl first ↦ subst (λ m. HasSettled (may_leave (journal_at m after)) digest (with_thinned allowed)) (sym first) of_text
            | inr both ↦ subst (λ m. HasSettled (may_leave (journal_at m after)) digest (with_thinned allowed)) (sym (both ∙ named_last r.chosen.text made.other ∙ prepared.other)) of_other
          ];
        }
