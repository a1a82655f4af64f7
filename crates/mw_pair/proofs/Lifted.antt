-- What is known of the disks of a pair room, of its files.
use Rattle.std.proofs.Common.{◌≡◌, ◌≢◌, ◌∙◌, ◌≤◌, ◌<◌, ℕ, zero, suc, List, [], Bool, true, false, Option, Some, None, Result, Ok, Err, is_some, refl, sym, ap, ap₂, subst, arith, inl, inr}
use Rattle.std.specs.Prelude.{◌==◌, if◌then◌else◌}
use Rattle.mw_disk.specs.Crash.{LeavesOnly, Stays}
use Rattle.mw_edges.specs.Causes.{Rose}
use Rattle.mw_edges.specs.Files.{open_file}
use Rattle.mw_edges.specs.Folders.{StaysOrIsMade, opened_bytes}
use Rattle.mw_protocol.specs.Records.{Record}
use Rattle.mw_journal.specs.Settled.{AllSettled, AllShut, IsSettled}
use Rattle.mw_checkpoint.specs.Checkpointing.{AllStandForOne, AreSettled, HasSettled, IsThinned, JournalsTell, MayStand, RefusesCheckpoint, with_thinned}
use Rattle.mw_checkpoint.specs.Choices.{named_in}
use Rattle.mw_checkpoint.specs.Chosen.{ReadsChoice}
use Rattle.mw_checkpoint.specs.Created.{ArePairEmpty, HasNone, IsMadeUpTo, IsStopped, IsUnmade, OnEach, disk_at}
use Rattle.mw_checkpoint.specs.Pair.{journal_at, journal_place, other_of, pick}
use Rattle.mw_checkpoint.specs.Preparing.{RefusesReading, RefusesWriting}
use Rattle.mw_checkpoint.specs.Refused.{RefusesChosen}
use Rattle.mw_checkpoint.specs.declared.error.PairError.{PairError}
use Rattle.mw_checkpoint.specs.declared.error.PairError.TheVariants.{DiskFault, NotEmpty, NotJournal, OtherSeed, BadChoice, BadRecord, ChoiceFull, Memory}
use Rattle.mw_checkpoint.specs.declared.files.Files.{Files}
use Rattle.mw_checkpoint.specs.declared.switching.Kept.{Kept}
use Rattle.mw_checkpoint.proofs.Settling.{stand_settled}
use Rattle.mw_checkpoint.proofs.WholeCheckpoints.{kept_settled}
use Rattle.mw_pair.specs.Choosing.{Chooses, ChoosesNone, IsClosedRoom, IsOpenedRoom, IsUnplayed, PassesRoom, RefusesChoice, StaysSettled}
use Rattle.mw_pair.specs.Folders.{AreOpenedAtMost, ArePairClosed, ArePairOpened, AreShut, IsClosed, IsFault, IsOpened, IsOpening, OnFiles, PassesAll}
use Rattle.mw_pair.specs.Making.{BytesStay, IsMadeIn, MadeFiles, RefusesMaking, TellsByte}
use Rattle.mw_pair.specs.Names.{IsOneOf, file_names, journal_name}
use Rattle.mw_pair.specs.Thinning.{AreThinned, KeepAllowed, KeepSettled, RefusesThin, bytes_in}
use Rattle.mw_pair.specs.declared.choosing.Chosen.{Chosen}
use Rattle.mw_pair.proofs.Naming.{shut_number}
use Rattle.mw_pair.proofs.Steps.{closed_opened}

-- ---- of three, one

-- by the number of a journal, and by a place
pub on_number : {A B : Type 0} (R : A → B → Type 0) (a : Files A) (b : Files B) (n : ℕ) → OnFiles R a b → R (journal_at n a) (journal_at n b)
on_number R a b n on = by (n == 0)
  where
    by : (c : Bool) → R (if c then a.zero else a.one) (if c then b.zero else b.one)
    by true = on.zero
    by false = on.one

pub on_place : {A B : Type 0} (R : A → B → Type 0) (a : Files A) (b : Files B) (place : ℕ) → OnFiles R a b → R (disk_at place a) (disk_at place b)
on_place R a b zero on = on.choice
on_place R a b (suc zero) on = on.zero
on_place R a b (suc (suc place)) on = on.one

of_one : (P : List ℕ → Type 0) (choice : List ℕ) → P choice → P (file_names choice).zero → P (file_names choice).one → (n : List ℕ) → IsOneOf choice n → P n
of_one P choice own first second n (inl same) = subst P (sym same) own
of_one P choice own first second n (inr (inl same)) = subst P (sym same) first
of_one P choice own first second n (inr (inr same)) = subst P (sym same) second

module _ {D : Type 0} (faults : D → ℕ) (files : Files D) (before after : ℕ) (p : PassesAll faults files before after) where
  passes_number : (n : ℕ) → 0 < faults (journal_at n files) → Rose before after
  passes_number n = by (n == 0)
    where
      by : (c : Bool) → 0 < faults (if c then files.zero else files.one) → Rose before after
      by true = p.zero
      by false = p.one

  passes_place : (place : ℕ) → 0 < faults (disk_at place files) → Rose before after
  passes_place zero = p.choice
  passes_place (suc zero) = p.zero
  passes_place (suc (suc place)) = p.one

rose_zero : (b a : ℕ) → b < a → 0 < a
rose_zero b a less = omega (arith, less)

-- ---- images that are fewer

pub fewer_has : (images later : List ℕ → Type 0) → Stays images later → (digest : List ℕ) (allowed : List (List Record)) → HasSettled images digest allowed → HasSettled later digest allowed
fewer_has images later stays digest allowed h = record {
  kept = h.kept;
  batch = h.batch;
  spelled = h.spelled;
  front = h.front;
  settled = λ c image. h.settled c (stays c image);
  first = h.first;
  both = h.both;
}

-- of three that stand for three others
pub fewer_stand : {A B : Type 0} (images : A → List ℕ → Type 0) (later : B → List ℕ → Type 0) (digest : List ℕ) (allowed : List (List Record)) (a : Files A) (b : Files B) → Stays (images a.choice) (later b.choice)
    → ((n : ℕ) → Stays (images (journal_at n a)) (later (journal_at n b))) → MayStand images digest a allowed → MayStand later digest b allowed
fewer_stand images later digest allowed a b own stays s = record {
  text = s.text;
  body = s.body;
  choice = λ c image. s.choice c (own c image);
  texts = s.texts;
  bodies = s.bodies;
  journals = λ named is. fewer_has (images (journal_at named a)) (later (journal_at named b)) (stays named) digest allowed (s.journals named is);
}

-- ---- files that weren't opened

-- where what a crash might have left was settled, and it leaves no more now
pub still_stands : (told : List ℕ → Option (List ℕ)) (images later : List ℕ → List ℕ → Type 0) (digest : List ℕ) (allowed : List (List Record)) (files : Files (List ℕ))
    → ((n : List ℕ) → Stays (images n) (later n)) → AreSettled told images digest files allowed → AllStandForOne later digest files allowed
still_stands told images later digest allowed files stays s c first second a b d =
    kept_settled told images (λ (n : List ℕ). 0) (λ (n : List ℕ) (t : ℕ) (x : List ℕ). images n x) (λ (n : List ℕ) (t : ℕ) (x : List ℕ) (le : t ≤ 0) (image : images n x). image) digest allowed files files refl refl
    (λ text body settled. record { later = omega arith; each = settled; earlier = λ t x le image. inl image }) s c first second (stays files.choice c a) (stays files.zero first b) (stays files.one second d)

pub still_settles : (told : List ℕ → Option (List ℕ)) (images later : List ℕ → List ℕ → Type 0) (digest : List ℕ) (allowed : List (List Record)) (files : Files (List ℕ))
    → ((n : List ℕ) → Stays (images n) (later n)) → AreSettled told images digest files allowed → MayStand later digest files (with_thinned allowed)
still_settles told images later digest allowed files stays s =
    fewer_stand images later digest (with_thinned allowed) files files (stays files.choice) (λ n. stays (journal_at n files))
    (stand_settled told images (λ (n : List ℕ). 0) (λ (n : List ℕ) (t : ℕ) (x : List ℕ). images n x) (λ (n : List ℕ) (t : ℕ) (x : List ℕ) (le : t ≤ 0) (image : images n x). image) digest allowed files files refl refl
    (λ text body settled. record { later = omega arith; each = settled; earlier = λ t x le image. inl image }) s)

-- ---- disks that were opened, and closed

module _ {D : Type 0} (told : D → Option (List ℕ)) (may_leave : D → List ℕ → Type 0) (faults : D → ℕ) (holds : List ℕ → Option (Option (List ℕ))) (images : List ℕ → List ℕ → Type 0) (choice digest : List ℕ)
    (files : Files D) (opened : ArePairOpened told may_leave faults holds images choice files)
  where
    abbrev Own : List ℕ → D → Type 0
    Own name disk = IsOpened told may_leave faults (holds name) (images name) disk

    own_number : (n : ℕ) → Own (journal_name choice n) (journal_at n files)
    own_number n = on_number Own (file_names choice) files n opened

    own_place : (place : ℕ) → Own (disk_at place (file_names choice)) (disk_at place files)
    own_place place = on_place Own (file_names choice) files place opened

    -- ---- a checkpoint

    lift_settled : (allowed : List (List Record)) → AreSettled (bytes_in holds) images digest (file_names choice) allowed → AreSettled told may_leave digest files allowed
    lift_settled allowed s = record {
      bytes = s.bytes;
      tells = opened.choice.tells ∙ s.tells;
      stand = fewer_stand images may_leave digest allowed (file_names choice) files opened.choice.left (λ n. (own_number n).left) s.stand;
    }

    module _ (after : Files D) (error : PairError) where
      pub lift_refused : RefusesCheckpoint told faults digest files after error → RefusesThin holds choice digest error
      lift_refused (inl r) = inr (inl (faults files.choice, faults after.choice, subst (λ t. RefusesChosen t digest (faults files.choice) (faults after.choice) error) opened.choice.tells r))
      lift_refused (inr (inl (text, names, inl spared))) = inr (inr (inl record {
        text = text;
        names = λ f is. names f (opened.choice.tells ∙ is);
        was = faults (journal_at (named_in text) files);
        now = faults (journal_at (named_in text) after);
        refused = inl (subst (λ t. RefusesReading (journal_place (named_in text)) t digest (faults (journal_at (named_in text) files)) (faults (journal_at (named_in text) after)) error) (own_number (named_in text)).tells spared.refused);
      }))
      lift_refused (inr (inl (text, names, inr writing))) = inr (inr (inl record {
        text = text;
        names = λ f is. names f (opened.choice.tells ∙ is);
        was = faults (journal_at (other_of (named_in text)) files);
        now = faults (journal_at (other_of (named_in text)) after);
        refused = inr (subst (λ t. RefusesWriting (journal_place (other_of (named_in text))) t (faults (journal_at (other_of (named_in text)) files)) (faults (journal_at (other_of (named_in text)) after)) error) (own_number (other_of (named_in text))).tells writing);
      }))
      lift_refused (inr (inr (opened_as, tells, switching, outside))) = inr (inr (inr record {
        opened = opened_as;
        tells = tells ∙ ap is_some opened.choice.tells;
        was = faults files.choice;
        now = faults after.choice;
        refused = switching;
        outside = outside;
      }))

    module _ (after : Files D) (old new : ℕ) (passes : PassesAll faults after old new) where
      pub lift_fault : (error : PairError) → RefusesCheckpoint told faults digest files after error → IsFault error → Rose old new
      lift_fault (DiskFault place) (inl r) is = passes.choice (rose_zero (faults files.choice) (faults after.choice) r.1)
      lift_fault (DiskFault place) (inr (inl (text, names, inl spared))) is =
          passes_number faults after old new passes (named_in text) (rose_zero (faults (journal_at (named_in text) files)) (faults (journal_at (named_in text) after)) spared.refused.1)
      lift_fault (DiskFault place) (inr (inl (text, names, inr writing))) is =
          passes_number faults after old new passes (other_of (named_in text)) (rose_zero (faults (journal_at (other_of (named_in text)) files)) (faults (journal_at (other_of (named_in text)) after)) writing.1)
      lift_fault (DiskFault place) (inr (inr (opened_as, tells, switching, outside))) is = passes.choice (rose_zero (faults files.choice) (faults after.choice) switching.1)
      lift_fault (NotEmpty place) r is = absurd is
      lift_fault (NotJournal place at) r is = absurd is
      lift_fault (OtherSeed place found) r is = absurd is
      lift_fault (BadChoice at) r is = absurd is
      lift_fault (BadRecord at) r is = absurd is
      lift_fault (ChoiceFull len) r is = absurd is
      lift_fault Memory r is = absurd is

      pub making_fault : {moment : D → ℕ} {left_since : D → ℕ → List ℕ → Type 0} (error : PairError) → IsStopped told may_leave moment left_since faults digest files after error → IsFault error → Rose old new
      making_fault (DiskFault at) s is = passes_place faults after old new passes s.place (rose_zero (faults (disk_at s.place files)) (faults (disk_at s.place after)) s.unmade.refused.1)
      making_fault (NotEmpty place) s is = absurd is
      making_fault (NotJournal place at) s is = absurd is
      making_fault (OtherSeed place found) s is = absurd is
      making_fault (BadChoice at) s is = absurd is
      making_fault (BadRecord at) s is = absurd is
      making_fault (ChoiceFull len) s is = absurd is
      making_fault Memory s is = absurd is

      pub choosing_fault : (error : PairError) → ChoosesNone told may_leave faults digest files after error → IsFault error → Rose old new
      choosing_fault (DiskFault at) n is = passes.choice (rose_zero (faults files.choice) (faults after.choice) n.refused.1)
      choosing_fault (NotEmpty place) n is = absurd is
      choosing_fault (NotJournal place at) n is = absurd is
      choosing_fault (OtherSeed place found) n is = absurd is
      choosing_fault (BadChoice at) n is = absurd is
      choosing_fault (BadRecord at) n is = absurd is
      choosing_fault (ChoiceFull len) n is = absurd is
      choosing_fault Memory n is = absurd is

    -- ---- the journal that is played

    pub opened_room : (room : Chosen D) → Chooses told may_leave digest files room → IsOpenedRoom told may_leave faults holds images choice digest room
    opened_room room c = record {
      names = record {
        text = c.reads.chosen.text;
        names = λ f is. (c.reads.chosen.place, c.reads.stands f (opened.choice.tells ∙ is));
        one = λ f front body is settled. c.reads.one f front body (opened.choice.tells ∙ is) (λ x image. settled x (opened.choice.left x image));
        choices = c.reads.chosen.choices;
        last = c.reads.chosen.last;
      };
      journal = subst (Own (journal_name choice room.named)) (sym c.journal) (own_number room.named);
      other = subst (Own (journal_name choice (other_of room.named))) (sym c.other) (own_number (other_of room.named));
      settled = λ text body settled x image. c.settled text body (λ y i. settled y (opened.choice.left y i)) x image;
      chosen = c.reads.chosen;
      tells = c.tells ∙ ap is_some opened.choice.tells;
    }

    pub choice_refused : (after : Files D) (error : PairError) → ChoosesNone told may_leave faults digest files after error → RefusesChoice holds choice digest error
    choice_refused after error n = inr (faults files.choice, faults after.choice, subst (λ t. RefusesChosen t digest (faults files.choice) (faults after.choice) error) opened.choice.tells n.refused)

    -- ---- once they are closed

    module _ (after : Files D) (later : List ℕ → Option (Option (List ℕ))) (left : List ℕ → List ℕ → Type 0) (is_open : List ℕ → Bool) (closed : ArePairClosed told may_leave later left is_open choice after) where
      lift_stand : (allowed : List (List Record)) → AllStandForOne may_leave digest after allowed → AllStandForOne left digest (file_names choice) allowed
      lift_stand allowed all c first second a b d = all c first second ((closed.choice.left c).0 a) ((closed.zero.left first).0 b) ((closed.one.left second).0 d)

      pub lift_kept : ((allowed : List (List Record)) → AreSettled told may_leave digest files allowed → AllStandForOne may_leave digest after allowed) → KeepAllowed holds images left choice digest
      lift_kept keeps allowed s = lift_stand allowed (keeps allowed (lift_settled allowed s))

      pub lift_settles : ((allowed : List (List Record)) → AreSettled told may_leave digest files allowed → JournalsTell told files → MayStand may_leave digest after (with_thinned allowed)) → KeepSettled holds images left choice digest
      lift_settles keeps allowed s some =
          let end = λ (n : ℕ). on_number (λ name disk. IsClosed told may_leave (later name) (left name) (is_open name) disk) (file_names choice) after n closed in
          fewer_stand may_leave left digest (with_thinned allowed) after (file_names choice) (λ c. (closed.choice.left c).0) (λ n c. ((end n).left c).0)
          (keeps allowed (lift_settled allowed s) (λ n. ap is_some (own_number n).tells ∙ some n))

      pub lift_thinned : (kept : Kept) → IsThinned told may_leave digest files after kept → AreThinned holds left choice digest kept
      lift_thinned kept t = record {
        text = t.text;
        records = t.records;
        names = λ f is. t.names f (opened.choice.tells ∙ is);
        choices = t.choices;
        reads = λ f is. t.reads f ((own_number (named_in t.text)).tells ∙ is);
        spelled = t.spelled;
        stands = λ c first second a b d. t.stands c first second ((closed.choice.left c).0 a) ((closed.zero.left first).0 b) ((closed.one.left second).0 d);
        of = t.of;
        left = t.left;
      }

      -- ---- a room that is made

      pub lift_made : ArePairEmpty may_leave digest after → OnEach (λ b a. HasNone told b) files after → IsMadeIn holds left choice digest
      lift_made made none = record {
        empty = of_one (λ n. (f : List ℕ) → opened_bytes (holds n) ≡ Some f → f ≡ []) choice
            (λ f is. none.choice f (opened.choice.tells ∙ is)) (λ f is. none.first f (opened.zero.tells ∙ is)) (λ f is. none.second f (opened.one.tells ∙ is));
        shut = of_one (λ n. AllShut (left n) digest [] 40) choice (λ c image. made.choice c ((closed.choice.left c).0 image)) (λ c image. made.first c ((closed.zero.left c).0 image))
            (λ c image. made.second c ((closed.one.left c).0 image));
      }

      -- a disk is as it was read
      abbrev AsRead : D → D → Type 0
      AsRead b a = (told a ≡ told b) × Stays (may_leave b) (may_leave a)

      -- a file in which a byte stands is told as before
      told_again : (file now : Option (Option (List ℕ))) → now ≡ open_file (opened_bytes file) → TellsByte file → now ≡ file
      told_again None now is (f, tells, some) = is
      told_again (Some None) now is (f, tells, some) = let none : f ≡ [] = cc in absurd (some none)
      told_again (Some (Some bytes)) now is (f, tells, some) = is

      read_file : (name : List ℕ) (b a : D) → Own name b → IsClosed told may_leave (later name) (left name) (is_open name) a → ((f : List ℕ) → told b ≡ Some f → f ≢ [] → AsRead b a)
          → TellsByte (holds name) → (later name ≡ holds name) × Stays (images name) (left name)
      read_file name b a o k reads (f, tells, some) =
          let r = reads f (o.tells ∙ tells) some in
          (told_again (holds name) (later name) (k.tells ∙ ap open_file (r.0 ∙ o.tells)) (f, tells, some), λ c image. o.left c (r.1 c ((k.left c).0 image)))

      module _ (moment : D → ℕ) (left_since : D → ℕ → List ℕ → Type 0) (error : PairError) where
        abbrev Unmade : ℕ → Type 0
        Unmade place = IsUnmade told may_leave moment left_since faults place (disk_at place files) (disk_at place after) error

        same_read : (b a : D) → a ≡ b → AsRead b a
        same_read b a same = (ap told same, λ c image. subst (λ d. may_leave d c) same image)

        read_choice : (place : ℕ) → IsMadeUpTo told may_leave digest place files after → Unmade place → (f : List ℕ) → told files.choice ≡ Some f → f ≢ [] → AsRead files.choice after.choice
        read_choice zero made u f is some = let o = u.untouched f is some in (o.same, o.stays)
        read_choice (suc zero) made u f is some = absurd (some (made.0.0 f is))
        read_choice (suc (suc place)) made u f is some = absurd (some (made.0.0 f is))

        read_zero : (place : ℕ) → IsMadeUpTo told may_leave digest place files after → Unmade place → (f : List ℕ) → told files.zero ≡ Some f → f ≢ [] → AsRead files.zero after.zero
        read_zero zero made u f is some = same_read files.zero after.zero made.0
        read_zero (suc zero) made u f is some = let o = u.untouched f is some in (o.same, o.stays)
        read_zero (suc (suc place)) made u f is some = absurd (some (made.1.0 f is))

        read_one : (place : ℕ) → IsMadeUpTo told may_leave digest place files after → Unmade place → (f : List ℕ) → told files.one ≡ Some f → f ≢ [] → AsRead files.one after.one
        read_one zero made u f is some = same_read files.one after.one made.1
        read_one (suc zero) made u f is some = same_read files.one after.one made.1
        read_one (suc (suc place)) made u f is some = let o = u.untouched f is some in (o.same, o.stays)

        stopped_bytes : IsStopped told may_leave moment left_since faults digest files after error → BytesStay holds later images left choice
        stopped_bytes s = of_one (λ n. TellsByte (holds n) → (later n ≡ holds n) × Stays (images n) (left n)) choice
            (read_file choice files.choice after.choice opened.choice closed.choice (read_choice s.place s.made s.unmade))
            (read_file (file_names choice).zero files.zero after.zero opened.zero closed.zero (read_zero s.place s.made s.unmade))
            (read_file (file_names choice).one files.one after.one opened.one closed.one (read_one s.place s.made s.unmade))

      made_bytes : IsMadeIn holds left choice digest → BytesStay holds later images left choice
      made_bytes m n one (f, tells, some) = absurd (some (m.empty n one f tells))

      pub lift_bytes : (moment : D → ℕ) (left_since : D → ℕ → List ℕ → Type 0) (outcome : Result (Unit {0}) PairError) → MadeFiles told may_leave moment left_since faults digest files after outcome → BytesStay holds later images left choice
      lift_bytes moment left_since (Ok made) m = made_bytes (lift_made m.0 m.1)
      lift_bytes moment left_since (Err error) s = stopped_bytes moment left_since error s

    pub making_refused : {moment : D → ℕ} {left_since : D → ℕ → List ℕ → Type 0} (after : Files D) (error : PairError) → IsStopped told may_leave moment left_since faults digest files after error → RefusesMaking holds choice error
    making_refused after (DiskFault at) s = tt
    making_refused after (NotEmpty at) s = λ f is. s.unmade.refused.1 f ((own_place s.place).tells ∙ subst (λ p. opened_bytes (holds (disk_at p (file_names choice))) ≡ Some f) s.unmade.refused.0 is)
    making_refused after (NotJournal place at) s = absurd s.unmade.refused
    making_refused after (OtherSeed place found) s = absurd s.unmade.refused
    making_refused after (BadChoice at) s = absurd s.unmade.refused
    making_refused after (BadRecord at) s = absurd s.unmade.refused
    making_refused after (ChoiceFull len) s = absurd s.unmade.refused
    making_refused after Memory s = tt

-- an error of opening files
pub opening_making : (holds : List ℕ → Option (Option (List ℕ))) (choice : List ℕ) (error : PairError) → IsOpening error → RefusesMaking holds choice error
opening_making holds choice (DiskFault at) is = tt
opening_making holds choice (NotEmpty at) is = absurd is
opening_making holds choice (NotJournal place at) is = is
opening_making holds choice (OtherSeed place found) is = is
opening_making holds choice (BadChoice at) is = is
opening_making holds choice (BadRecord at) is = is
opening_making holds choice (ChoiceFull len) is = is
opening_making holds choice Memory is = tt

-- a file that stays, or is made empty, is told as before; and so is one whose disk tells as before
pub tells_made : (before after : Option (Option (List ℕ))) → StaysOrIsMade before after → is_some (opened_bytes after) ≡ is_some (opened_bytes before)
tells_made before after (inl same) = ap (λ file. is_some (opened_bytes file)) same
tells_made before after (inr made) = ap (λ file. is_some (opened_bytes file)) made.1 ∙ sym (ap (λ file. is_some (opened_bytes file)) made.0)

pub tells_closed : (told : Option (List ℕ)) (after : Option (Option (List ℕ))) → after ≡ open_file told → is_some (opened_bytes after) ≡ is_some told
tells_closed None after is = ap (λ file. is_some (opened_bytes file)) is
tells_closed (Some bytes) after is = ap (λ file. is_some (opened_bytes file)) is

-- ---- files of which one wasn't opened

module _ (holds later : List ℕ → Option (Option (List ℕ))) (images left : List ℕ → List ℕ → Type 0) (was is : List ℕ → Bool) (choice digest : List ℕ) (most : AreOpenedAtMost holds later images left was is) where
  pub unopened_unplayed : IsUnplayed holds later images left was is choice digest
  unopened_unplayed = record {
    settled = λ text body settled c image. settled c ((most choice).crash c image);
    tells = tells_made (holds choice) (later choice) (most choice).told;
    opened = (most choice).opened;
    journals = λ number. most (journal_name choice number);
  }

  pub unopened_kept : KeepAllowed holds images left choice digest
  unopened_kept allowed s = still_stands (bytes_in holds) images left digest allowed (file_names choice) (λ n. (most n).crash) s

  pub unopened_settles : KeepSettled holds images left choice digest
  unopened_settles allowed s some = still_settles (bytes_in holds) images left digest allowed (file_names choice) (λ n. (most n).crash) s

  byte_stays : (before after : Option (Option (List ℕ))) → StaysOrIsMade before after → TellsByte before → after ≡ before
  byte_stays before after (inl same) byte = same
  byte_stays before after (inr made) (f, tells, some) =
      let none : Some [] ≡ Some f = sym (ap opened_bytes made.0) ∙ tells in
      let empty : f ≡ [] = cc in
      absurd (some empty)

  pub unopened_bytes : BytesStay holds later images left choice
  unopened_bytes n one byte = (byte_stays (holds n) (later n) (most n).told byte, (most n).crash)

-- ---- a room that isn't played

module _ {D : Type 0} (told : D → Option (List ℕ)) (may_leave : D → List ℕ → Type 0) (faults : D → ℕ) (holds later : List ℕ → Option (Option (List ℕ))) (images left : List ℕ → List ℕ → Type 0) (was is : List ℕ → Bool)
    (choice digest : List ℕ) (files after : Files D) (opened : ArePairOpened told may_leave faults holds images choice files) (shut : AreShut was choice) (closed : ArePairClosed told may_leave later left is choice after)
  where
    pub none_unplayed : (error : PairError) → ChoosesNone told may_leave faults digest files after error → IsUnplayed holds later images left was is choice digest
    none_unplayed error n = record {
      settled = λ text body settled c image. n.settled text body (λ y i. settled y (opened.choice.left y i)) c ((closed.choice.left c).0 image);
      tells = tells_closed (told after.choice) (later choice) closed.choice.tells ∙ n.tells ∙ ap is_some opened.choice.tells;
      opened = closed.choice.shut ∙ sym shut.choice_shut;
      journals = λ number.
          let name = journal_name choice number in
          let same : journal_at number after ≡ journal_at number files = ap₂ (λ a b. pick number a b) n.zero n.one in
          let own = on_number (λ m d. IsOpened told may_leave faults (holds m) (images m) d) (file_names choice) files number opened in
          let end = on_number (λ m d. IsClosed told may_leave (later m) (left m) (is m) d) (file_names choice) after number closed in
          closed_opened told may_leave faults (journal_at number files) own (shut_number was choice shut number) (subst (λ d. IsClosed told may_leave (later name) (left name) (is name) d) same end);
    }

-- ---- a room that was played

module _ {D : Type 0} (told : D → Option (List ℕ)) (may_leave : D → List ℕ → Type 0) (faults : D → ℕ) (later : List ℕ → Option (Option (List ℕ))) (left : List ℕ → List ℕ → Type 0) (is : List ℕ → Bool)
    (choice : List ℕ) (room : Chosen D) (files : Files D) (own : files.choice ≡ room.choice) (journal : journal_at room.named files ≡ room.journal) (other : journal_at (other_of room.named) files ≡ room.other)
  where
    abbrev End : List ℕ → D → Type 0
    End name disk = IsClosed told may_leave (later name) (left name) (is name) disk

    pub closed_room : ArePairClosed told may_leave later left is choice files → IsClosedRoom told may_leave later left is choice room
    closed_room closed = record {
      own = subst (End choice) own closed.choice;
      journal = subst (End (journal_name choice room.named)) journal (on_number End (file_names choice) files room.named closed);
      other = subst (End (journal_name choice (other_of room.named))) other (on_number End (file_names choice) files (other_of room.named) closed);
    }

    pub passes_room : (old new : ℕ) → PassesAll faults files old new → PassesRoom faults room old new
    passes_room old new p = record {
      later = p.later;
      own = λ some. p.choice (subst (λ d. 0 < faults d) (sym own) some);
      journal = λ some. passes_number faults files old new p room.named (subst (λ d. 0 < faults d) (sym journal) some);
    }

-- ---- which journal is played

module _ {D : Type 0} (told : D → Option (List ℕ)) (may_leave : D → List ℕ → Type 0) (moment : D → ℕ) (left_since : D → ℕ → List ℕ → Type 0)
    (counts : (d : D) (t : ℕ) (c : List ℕ) → t ≤ moment d → may_leave d c → left_since d t c) (digest : List ℕ) (files opened : Files D) (zero : opened.zero ≡ files.zero) (one : opened.one ≡ files.one)
    (keeps : (text body : List ℕ) → AllSettled (may_leave files.choice) digest text body → LeavesOnly moment left_since files.choice opened.choice (λ c. IsSettled c digest text body))
    (tells : is_some (told opened.choice) ≡ is_some (told files.choice))
  where
    settled_now : StaysSettled (may_leave files.choice) (may_leave opened.choice) digest
    settled_now text body s c image = let run = keeps text body s in run.each c (counts opened.choice (moment files.choice) c run.later image)

    same_number : (n : ℕ) → journal_at n opened ≡ journal_at n files
    same_number n = ap₂ (λ a b. pick n a b) zero one

    pub chose : (named : ℕ) (choice journal other : D) → choice ≡ opened.choice → journal ≡ journal_at named opened → other ≡ journal_at (other_of named) opened
        → ReadsChoice told may_leave digest files.choice opened.choice named → Chooses told may_leave digest files (record { choice = choice; journal = journal; other = other; named = named })
    chose named choice journal other own first second r = record {
      reads = subst (λ d. ReadsChoice told may_leave digest files.choice d named) (sym own) r;
      journal = first ∙ same_number named;
      other = second ∙ same_number (other_of named);
      settled = subst (λ d. StaysSettled (may_leave files.choice) (may_leave d) digest) (sym own) settled_now;
      tells = ap (λ d. is_some (told d)) own ∙ tells;
    }

    pub chose_none : (faults : D → ℕ) (error : PairError) → RefusesChosen (told files.choice) digest (faults files.choice) (faults opened.choice) error → ChoosesNone told may_leave faults digest files opened error
    chose_none faults error r = record { refused = r; zero = zero; one = one; settled = settled_now; tells = tells }
