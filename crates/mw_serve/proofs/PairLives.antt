-- All runs on one pair room keep what any of them showed.
use Rattle.std.proofs.Common.{◌≡◌, ◌⊎◌, ◌∙◌, ◌+◌, ◌==◌, ℕ, List, [], ◌∷◌, ◌++◌, Bool, true, false, cond, Option, Some, None, Ok, Contains, map, refl, sym, ap, subst, inl, inr, append_assoc, append-nil, length, take, drop, arith}
use Rattle.std.proofs.Math.Seq.{take-length}
use Rattle.std.proofs.lemmas.List.Elements.{All-cons, All-contains, All-contains_itself, All-map, All-nil, Contains-append_cases}
use Rattle.std.specs.Option.{is_some}
use Rattle.std.specs.List.{AllByRecursion}
use Rattle.std.specs.Io.KnownBytes.{Keeps as WasKept}
use Rattle.std.specs.Prelude.{All, IsTrue, slice_index_or}
use Rattle.mw_causes.specs.Tables.{Files}
use Rattle.mw_disk.specs.Crash.{Stays}
use Rattle.mw_checkpoint.specs.Checkpointing.{HasSettled, MayStand, with_thinned}
use Rattle.mw_checkpoint.specs.Choices.{named_in}
use Rattle.mw_checkpoint.specs.Chosen.{IsChosen}
use Rattle.mw_checkpoint.specs.Pair.{journal_place, other_of}
use Rattle.mw_checkpoint.specs.Refused.{RefusesChosen}
use Rattle.mw_checkpoint.specs.Switching.{IsOutsideOrFull}
use Rattle.mw_checkpoint.specs.Whole.{AreRecords}
use Rattle.mw_checkpoint.specs.declared.error.PairError.{PairError}
use Rattle.mw_checkpoint.proofs.Spelt.{both_records}
use Rattle.mw_drive.specs.Drive.{Put, gone, overrun, message, text_put}
use Rattle.mw_drive.specs.Ends.{IsFound, Refuses, StaysSettled}
use Rattle.mw_drive.specs.Left.{KeepsFound, KeepsFrom}
use Rattle.mw_drive.specs.declared.error.JournalRefusal.{JournalRefusal}
use Rattle.mw_drive.proofs.Telling.{none_put, some_told}
use Rattle.mw_edges.specs.Causes.{PutsFront}
use Rattle.mw_edges.specs.Folders.{opened_bytes}
use Rattle.mw_journal.specs.Settled.{AllShut, IsSettled}
use Rattle.mw_keep.proofs.Leaving.{committed_records, first_records, left_so}
use Rattle.mw_keep.proofs.Naming.{names_fit}
use Rattle.mw_keep.proofs.OneSeed.{one_seed}
use Rattle.mw_keep.specs.Left.{IsLeft}
use Rattle.mw_laws.specs.Items.{ItemsComeOnce}
use Rattle.mw_laws.specs.Naming.{JournalsAreNamed, NamesFit}
use Rattle.mw_laws.specs.Shows.{ShowsChecked}
use Rattle.mw_laws.specs.Tails.{taking}
use Rattle.mw_link.specs.declared.link.Heard.{Heard}
use Rattle.mw_model.specs.Seed.{Seed}
use Rattle.mw_multidata.specs.Digest.{digest_of}
use Rattle.mw_multidata.specs.SeedOf.{SeedOf}
use Rattle.mw_multidata.proofs.SeedKept.{file_kept}
use Rattle.mw_offline.specs.Across.{IsKeptAcross, IsToldAcross}
use Rattle.mw_offline.specs.FilesAround.{FilesAround, files_around}
use Rattle.mw_offline.specs.PairDriving.{RoomFound, RoomStays}
use Rattle.mw_offline.proofs.Driving.{told_bytes}
use Rattle.mw_offline.proofs.Keeping.{Laws, across_append, across_from, across_seed}
use Rattle.mw_pair.specs.Choosing.{NamesJournal, RefusesChoice}
use Rattle.mw_pair.specs.Folders.{IsOpening}
use Rattle.mw_pair.specs.Names.{IsOneOf, file_names, journal_name}
use Rattle.mw_pair.specs.Thinning.{RefusesCopy, RefusesNumber, RefusesThin}
use Rattle.mw_pair.proofs.Lifted.{fewer_has, fewer_stand}
use Rattle.mw_protocol.specs.Asked.{view}
use Rattle.mw_protocol.specs.Connecting.{Member}
use Rattle.mw_protocol.specs.Lives.{Life, Luck, committed_of, crashes, fine, left_by, new_life}
use Rattle.mw_protocol.specs.Named.{are_named}
use Rattle.mw_protocol.specs.Records.{Record}
use Rattle.mw_protocol.specs.Rooms.{Message}
use Rattle.mw_protocol.specs.Spelled.{records_bytes}
use Rattle.mw_session.specs.declared.served.Served.{Served}
use Rattle.mw_thinning.specs.Across.{took}
use Rattle.mw_thinning.specs.Checkpoints.{Step, goes, thins, after, journal_after, life_after_all}
use Rattle.mw_thinning.specs.Thinning.{thinned}
use Rattle.mw_serve.specs.Accepting.{AcceptsPair, IsSettledJournal, IsThere, RefusesNone}
use Rattle.mw_serve.specs.Across.{AllAcross, AreSentAcross, IsSentAcross}
use Rattle.mw_serve.specs.PairLives.{ArePairKept, AreRuns, GoesOnFrom, KeepsMessageAcross, KeepsPairRun, KeepsPutAcross, KeepsTextAcross, KeepsTextsAcross, PairRun, ShowsOn, checks, end_of, first_of, hosts, last_of, plays}
use Rattle.mw_serve.specs.PairServing.{PairServeKeeps}
use Rattle.mw_serve.specs.Sent.{SendsFound, SendsFrom}
use Rattle.mw_serve.proofs.Accepting.{back_named, choice_accepted, journal_accepted, left_named, one_text, opening_outside, reading_accepted, writing_accepted}
use Rattle.mw_serve.proofs.Sending.{all_weaker, every_weaker, sends_across}

-- ---- lists

mapped_from : {X Y : Type 0} (f : X → Y) (xs : List X) (y : Y) → Contains (map f xs) y → (x : X) × Contains xs x × (y ≡ f x)
mapped_from {X} f xs y has =
    All-contains (λ z. (x : X) × Contains xs x × (z ≡ f x)) (map f xs) y (All-map (λ z. (x : X) × Contains xs x × (z ≡ f x)) f xs (λ i d lt. (slice_index_or xs i d, All-contains_itself xs i d lt, refl))) has

one_of : {X : Type 0} (a x : X) → Contains (a ∷ []) x → x ≡ a
one_of a x has = All-contains (λ z. z ≡ a) (a ∷ []) x (All-cons (λ z. z ≡ a) a [] refl (All-nil (λ z. z ≡ a))) has

of_two : {X : Type 0} (a b x : X) → Contains (a ∷ b ∷ []) x → (x ≡ a) ⊎ (x ≡ b)
of_two a b x has =
    All-contains (λ z. (z ≡ a) ⊎ (z ≡ b)) (a ∷ b ∷ []) x
    (All-cons (λ z. (z ≡ a) ⊎ (z ≡ b)) a (b ∷ []) (inl refl) (All-cons (λ z. (z ≡ a) ⊎ (z ≡ b)) b [] (inr refl) (All-nil (λ z. (z ≡ a) ⊎ (z ≡ b))))) has

batch_records : (xs ys : List Record) → AreRecords (xs ++ ys) → AreRecords ys
batch_records [] ys h = h
batch_records (x ∷ xs) ys h = batch_records xs ys h.1

-- ---- records that a crash may leave after some steps, or a checkpoint

record Reached (seed : Seed) (steps : List Step) (journal : List Record) : Type 0 where
  more : List Step
  left : ℕ
  is : journal ≡ left_by (life_after_all seed (steps ++ more)) left

-- one step more
then_life : (seed : Seed) (steps more : List Step) (s : Step) → after (life_after_all seed (steps ++ more)) s ≡ life_after_all seed (steps ++ (more ++ s ∷ []))
then_life seed steps more s = sym (across_append (steps ++ more) (new_life seed [] 40) (s ∷ [])) ∙ ap (life_after_all seed) (append_assoc steps more (s ∷ []))

module _ (seed : Seed) (steps : List Step) (journal : List Record) (r : Reached seed steps journal) where
  -- a life that begins with them is one that such a run comes to
  reached_life : (place : ℕ) → (more : List Step) × (new_life seed journal place ≡ life_after_all seed (steps ++ more))
  reached_life place =
      let life = life_after_all seed (steps ++ r.more) in
      let s = goes (crashes r.left place) in (
        r.more ++ s ∷ [],
        ap (λ j. new_life seed j place) r.is ∙ ap (λ e. new_life e (left_by life r.left) place) (sym (across_seed (new_life seed [] 40) (steps ++ r.more))) ∙ then_life seed steps r.more s,
      )

  whole : (j : List Record) → j ≡ take (length j + 0) j
  whole j = sym (take-length j) ∙ ap (λ n. take n j) (let same : length j ≡ length j + 0 = omega arith in same)

  -- what counts of them is left by a checkpoint
  reached_thinned : Reached seed steps (thinned journal)
  reached_thinned =
      let life = life_after_all seed (steps ++ r.more) in
      let s = thins r.left 40 in
      record {
        more = r.more ++ s ∷ [];
        left = 0;
        is = ap thinned r.is ∙ whole (thinned (left_by life r.left)) ∙ ap (λ l. left_by l 0) (then_life seed steps r.more s);
      }

-- ---- what is kept in later steps, and by a journal that is left after them

module _ (seed : Seed) (steps more : List Step) where
  told_later : (session : ℕ) (luck : Luck) (member : Option Member) (m : Message) → IsToldAcross seed steps session luck member m → IsToldAcross seed (steps ++ more) session luck member m
  told_later session luck member m t = record {
    front = t.front;
    back = t.back ++ more;
    goes_on = ap (λ ss. ss ++ more) t.goes_on ∙ append_assoc t.front (goes (taking session luck) ∷ t.back) more;
    plays = t.plays;
    taken = t.taken;
    tails = t.tails;
    shows = λ later k plays. subst (λ ss. ShowsChecked seed (journal_after seed ss) k m) (sym (append_assoc steps more later)) (t.shows (more ++ later) k plays);
  }

  put_later : (p : Put) → IsKeptAcross seed steps p → IsKeptAcross seed (steps ++ more) p
  put_later (gone session) h = tt
  put_later (overrun session) h = tt
  put_later (message session member m) h = told_later session fine member m h

  texts_later : (session : Option ℕ) (texts : List (List ℕ)) → AreSentAcross seed steps session texts → AreSentAcross seed (steps ++ more) session texts
  texts_later None texts h = h
  texts_later (Some session) texts h = (
    all_weaker (IsSentAcross seed steps session) (IsSentAcross seed (steps ++ more) session) (λ text k. (k.0, k.1, k.2, k.3, told_later session k.0 k.1 k.2 k.4)) texts h.0,
    record { front = h.1.front; back = h.1.back ++ more; point = ap (λ ss. ss ++ more) h.1.point ∙ append_assoc h.1.front h.1.back more; s = h.1.s; found = h.1.found; first = h.1.first },
  )

  module _ (journal : List Record) (is : journal_after seed (steps ++ more) ≡ journal) where
    message_kept : (session : ℕ) (luck : Luck) (member : Option Member) (m : Message) → IsToldAcross seed steps session luck member m → KeepsMessageAcross seed steps journal session luck member m
    message_kept session luck member m t = record {
      told = t;
      shows = λ k plays. subst (λ j. ShowsChecked seed j k m) is (t.shows more k plays);
      stand = λ index items has.
          let tail = t.tails index items has in
          let run : took t.front session luck (t.back ++ more) ≡ steps ++ more = sym (append_assoc t.front (goes (taking session luck) ∷ t.back) more) ∙ ap (λ ss. ss ++ more) (sym t.goes_on) in
          subst (λ j. items ≡ take (length items) (drop index (view seed tail.tail.member.mask tail.tail.member.team tail.tail.member.slot j))) (ap (journal_after seed) run ∙ is) (tail.last (t.back ++ more));
    }

    put_kept : (p : Put) → IsKeptAcross seed steps p → KeepsPutAcross seed steps journal p
    put_kept (gone session) h = tt
    put_kept (overrun session) h = tt
    put_kept (message session member m) h = message_kept session fine member m h

    texts_kept : (session : Option ℕ) (texts : List (List ℕ)) → AreSentAcross seed steps session texts → KeepsTextsAcross seed steps journal session texts
    texts_kept None texts h = h
    texts_kept (Some session) texts h =
        (all_weaker (IsSentAcross seed steps session) (KeepsTextAcross seed steps journal session) (λ text k. (k.0, k.1, k.2, k.3, message_kept session k.0 k.1 k.2 k.4)) texts h.0, h.1)

-- what a script's run put keeps to the steps
record IsPutAcross (seed : Seed) (old new : Option (List ℕ)) (steps : List Step) : Type 0 where
  put : List Put
  front : PutsFront old new (text_put put)
  kept : All (IsKeptAcross seed steps) put

-- ---- the three files

one_name : (choice : List ℕ) (number : ℕ) → IsOneOf choice (journal_name choice number)
one_name choice number = by (number == 0)
  where
    by : (b : Bool) → IsOneOf choice (cond b (file_names choice).zero (file_names choice).one)
    by true = inr (inl refl)
    by false = inr (inr refl)

-- what a crash may leave of them is settled for records that such a run of lives may leave
record Stands (images : List ℕ → List ℕ → Type 0) (choice digest : List ℕ) (seed : Seed) (steps : List Step) : Type 0 where
  allowed : List (List Record)
  stand : MayStand images digest (file_names choice) allowed
  reached : (journal : List Record) → Contains allowed journal → Reached seed steps journal

-- and then, of what a run did
record Next (images : List ℕ → List ℕ → Type 0) (choice digest : List ℕ) (seed : Seed) (W : List Step → Type 0) (steps : List Step) : Type 0 where
  more : List Step
  stands : Stands images choice digest seed (steps ++ more)
  told : W (steps ++ more)

module _ (choice digest : List ℕ) (seed : Seed) where
  -- three empty journals
  stands_made : (images : List ℕ → List ℕ → Type 0) → ((n : List ℕ) → IsOneOf choice n → AllShut (images n) digest [] 40) → Stands images choice digest seed []
  stands_made images shut = record {
    allowed = [] ∷ [];
    stand = record {
      text = [];
      body = [];
      choice = λ c image. inl (40, shut choice (inl refl) c image);
      texts = tt;
      bodies = tt;
      journals = λ n is. record {
        kept = [];
        batch = [];
        spelled = tt;
        front = tt;
        settled = λ c image. inl (40, shut (journal_name choice n) (one_name choice n) c image);
        first = (0, omega arith, refl);
        both = (0, omega arith, refl);
      };
    };
    reached = λ journal has. record { more = []; left = 0; is = one_of [] journal has };
  }

  -- what a crash in a life may leave of a journal is what it may leave after the steps that led to it
  left_has : (images : List ℕ → Type 0) (life : Life) (left : IsLeft images digest life) → HasSettled images digest (committed_of life ∷ (committed_of life ++ left.batch) ∷ [])
  left_has images life left =
      let front = committed_records life left.records in record {
        kept = committed_of life;
        batch = left.batch;
        spelled = both_records (committed_of life) left.batch front (first_records life left.batch left.first left.records);
        front = front;
        settled = left.settled;
        first = (0, omega arith, refl);
        both = (1, omega arith, refl);
      }

  left_reached : (images : List ℕ → Type 0) (steps : List Step) (left : IsLeft images digest (life_after_all seed steps)) (journal : List Record)
      → Contains (committed_of (life_after_all seed steps) ∷ (committed_of (life_after_all seed steps) ++ left.batch) ∷ []) journal → Reached seed steps journal
  left_reached images steps left journal has =
      let life = life_after_all seed steps in
      let so = left_so life left.batch journal left.first (of_two (committed_of life) (committed_of life ++ left.batch) journal has) in
      record { more = []; left = so.0; is = so.1 ∙ ap (λ ss. left_by (life_after_all seed ss) so.0) (sym (append-nil steps)) }

  module _ (first last : List ℕ → List ℕ → Type 0) (steps : List Step) (s : Stands first choice digest seed steps) where
    -- the room is as it was
    stands_still : StaysSettled (first choice) (last choice) digest → ((number : ℕ) → Stays (first (journal_name choice number)) (last (journal_name choice number))) → Stands last choice digest seed steps
    stands_still settled journals = record {
      allowed = s.allowed;
      stand = record {
        text = s.stand.text;
        body = s.stand.body;
        choice = settled s.stand.text s.stand.body s.stand.choice;
        texts = s.stand.texts;
        bodies = s.stand.bodies;
        journals = λ n is. fewer_has (first (journal_name choice n)) (last (journal_name choice n)) (journals n) digest s.allowed (s.stand.journals n is);
      };
      reached = s.reached;
    }

    still_next : (W : List Step → Type 0) → W steps → Stands last choice digest seed steps → Next last choice digest seed W steps
    still_next W w stands =
        record { more = []; stands = subst (Stands last choice digest seed) (sym (append-nil steps)) stands; told = subst W (sym (append-nil steps)) w }

    -- a checkpoint was made, or wasn't
    stands_thinned : MayStand last digest (file_names choice) (with_thinned s.allowed) → Stands last choice digest seed steps
    stands_thinned stand = record {
      allowed = with_thinned s.allowed;
      stand = stand;
      reached = λ journal has. elim (Contains-append_cases s.allowed (map thinned s.allowed) journal has) [
        | inl one ↦ s.reached journal one
        | inr one ↦
            let k = mapped_from thinned s.allowed journal one in
            subst (Reached seed steps) (sym k.2) (reached_thinned seed steps k.0 (s.reached k.0 k.1))
      ];
    }

    -- CHOICE names a journal
    module _ (told : Option (List ℕ)) (some : is_some told ≡ true) (number : ℕ) (names : NamesJournal told (first choice) digest number) where
      abbrev name : List ℕ
      name = journal_name choice number

      named_has : HasSettled (first name) digest s.allowed
      named_has =
          let f = some_told told some in
          s.stand.journals number (elim (names.one f.0 s.stand.text s.stand.body f.1 s.stand.choice) [
            | inl is ↦ inl (names.last ∙ ap named_in is)
            | inr is ↦ inr (names.last ∙ ap named_in is)
          ])

      -- the records that are found there are among those that may be left
      found_reached : (bytes : Option (List ℕ)) → is_some bytes ≡ true → (journal : List Record) (place : ℕ) → IsFound bytes (first name) digest seed journal place → Reached seed steps journal
      found_reached bytes known journal place found =
          let f = some_told bytes known in
          let h = named_has in
          s.reached journal (elim (found.one f.0 h.kept h.batch f.1 h.front (batch_records h.kept h.batch h.spelled) h.settled) [
            | inl is ↦ subst (Contains s.allowed) (sym is) h.first
            | inr is ↦ subst (Contains s.allowed) (sym is) h.both
          ])

      module _ (chosen : IsChosen last digest number choice) where
        chosen_stand : (allowed : List (List Record)) → HasSettled (last name) digest allowed → MayStand last digest (file_names choice) allowed
        chosen_stand allowed has = record {
          text = chosen.text;
          body = [];
          choice = λ c image. inl (chosen.place, chosen.shut c image);
          texts = chosen.choices;
          bodies = tt;
          journals = λ n is. subst (λ m. HasSettled (last (journal_name choice m)) digest allowed) (chosen.last ∙ sym (same n is)) has;
        }
          where
            same : (n : ℕ) → (n ≡ named_in chosen.text) ⊎ (n ≡ named_in (chosen.text ++ [])) → n ≡ named_in chosen.text
            same n (inl is) = is
            same n (inr is) = is ∙ ap named_in (append-nil chosen.text)

        -- a run on it that found no records, or went on from the life that begins with those that it found
        module _ (K : Life → Type 0) (W : List Step → Type 0) (Q : Type 0) (quiet : Q → W steps)
            (goes_on : (before : List Step) → K (life_after_all seed before) → (more : List Step) × IsLeft (last name) digest (life_after_all seed (before ++ more)) × W (before ++ more))
          where
            played_next : (bytes : Option (List ℕ)) → is_some bytes ≡ true
                → (StaysSettled (first name) (last name) digest × Q) ⊎ ((journal : List Record) × (place : ℕ) × IsFound bytes (first name) digest seed journal place × K (new_life seed journal place))
                → Next last choice digest seed W steps
            played_next bytes known (inl (stays, q)) = still_next W (quiet q) record {
              allowed = s.allowed;
              stand = chosen_stand s.allowed (settled_has named_has);
              reached = s.reached;
            }
              where
                settled_has : HasSettled (first name) digest s.allowed → HasSettled (last name) digest s.allowed
                settled_has h = record {
                  kept = h.kept;
                  batch = h.batch;
                  spelled = h.spelled;
                  front = h.front;
                  settled = stays (records_bytes h.kept) (records_bytes h.batch) h.settled;
                  first = h.first;
                  both = h.both;
                }
            played_next bytes known (inr (journal, place, found, k)) =
                let life = reached_life seed steps journal (found_reached bytes known journal place found) place in
                let on = goes_on (steps ++ life.0) (subst K life.1 k) in
                let same = append_assoc steps life.0 on.0 in
                let left = subst (λ ss. IsLeft (last name) digest (life_after_all seed ss)) same on.1 in
                record {
                  more = life.0 ++ on.0;
                  stands = record {
                    allowed = committed_of (life_after_all seed (steps ++ (life.0 ++ on.0))) ∷ (committed_of (life_after_all seed (steps ++ (life.0 ++ on.0))) ++ left.batch) ∷ [];
                    stand = chosen_stand (committed_of (life_after_all seed (steps ++ (life.0 ++ on.0))) ∷ (committed_of (life_after_all seed (steps ++ (life.0 ++ on.0))) ++ left.batch) ∷ []) (left_has (last name) (life_after_all seed (steps ++ (life.0 ++ on.0))) left);
                    reached = left_reached (last name) (steps ++ (life.0 ++ on.0)) left;
                  };
                  told = subst W same on.2;
                }

-- ---- that no run refuses them

module _ (naming : JournalsAreNamed) (seed : Seed) (fit : NamesFit seed) (choice digest : List ℕ) (steps : List Step) (holds : Files) (images : List ℕ → List ℕ → Type 0) (s : Stands images choice digest seed steps)
    (told : (n : List ℕ) → IsOneOf choice n → IsTrue (is_some (opened_bytes (holds n)))) (may_stay : (n c : List ℕ) → holds n ≡ Some (Some c) → images n c)
  where
    -- each of the allowed lists of records names only what the seed has
    named_allowed : (rs : List Record) → Contains s.allowed rs → IsTrue (are_named seed rs)
    named_allowed rs has = let r = s.reached rs has in subst (λ js. IsTrue (are_named seed js)) (sym r.is) (left_named naming seed fit (steps ++ r.more) r.left)

    named_settled : (left : List ℕ → Type 0) → HasSettled left digest s.allowed → IsSettledJournal left digest seed
    named_settled left h = record {
      kept = h.kept;
      batch = h.batch;
      first = record { spelled = h.front; named = named_allowed h.kept h.first };
      more = record { spelled = batch_records h.kept h.batch h.spelled; named = back_named seed h.kept h.batch (named_allowed (h.kept ++ h.batch) h.both) };
      settled = h.settled;
    }

    journal_settled : (number : ℕ) → NamesJournal (opened_bytes (holds choice)) (images choice) digest number → IsSettledJournal (images (journal_name choice number)) digest seed
    journal_settled number names =
        named_settled (images (journal_name choice number)) (named_has choice digest seed images images steps s (opened_bytes (holds choice)) (told choice (inl refl)) number names)

    module _ (there : (n : List ℕ) → IsOneOf choice n → IsThere (holds n)) where
      own : (f : List ℕ) × (holds choice ≡ Some (Some f))
      own = there choice (inl refl)

      own_settled : IsSettled own.0 digest s.stand.text s.stand.body
      own_settled = s.stand.choice own.0 (may_stay choice own.0 own.1)

      chosen_so : (was now : ℕ) (error : PairError) → RefusesChosen (opened_bytes (holds choice)) digest was now error → IsOpening error
      chosen_so was now error r =
          choice_accepted (opened_bytes (holds choice)) own.0 digest s.stand.text s.stand.body (ap opened_bytes own.1) own_settled s.stand.texts s.stand.bodies was now error r

      journal_of : (number : ℕ) → (f : List ℕ) × (holds (journal_name choice number) ≡ Some (Some f))
      journal_of number = there (journal_name choice number) (one_name choice number)

      playing : (number : ℕ) (refusal : JournalRefusal) → NamesJournal (opened_bytes (holds choice)) (images choice) digest number → Refuses (opened_bytes (holds (journal_name choice number))) digest seed refusal → ⊥
      playing number refusal names r =
          let h = journal_settled number names in
          let j = journal_of number in
          journal_accepted (opened_bytes (holds (journal_name choice number))) j.0 digest h.kept h.batch (ap opened_bytes j.1) (h.settled j.0 (may_stay (journal_name choice number) j.0 j.1)) seed h.first h.more refusal r

      copying : (error : PairError) → RefusesCopy holds choice digest error → IsOutsideOrFull error
      copying error c =
          let number = named_in c.text in
          let other = other_of number in
          let stands = c.names own.0 (ap opened_bytes own.1) in
          let h = s.stand.journals number (elim (one_text (opened_bytes (holds choice)) own.0 digest s.stand.text s.stand.body (ap opened_bytes own.1) own_settled c.text stands) [
            | inl one ↦ inl (ap named_in one)
            | inr both ↦ inr (ap named_in both)
          ]) in
          let j = journal_of number in
          let o = journal_of other in
          elim (c.refused) [
            | inl reading ↦
                reading_accepted (opened_bytes (holds (journal_name choice number))) j.0 digest h.kept h.batch (ap opened_bytes j.1) (h.settled j.0 (may_stay (journal_name choice number) j.0 j.1))
                h.front (batch_records h.kept h.batch h.spelled) (journal_place number) c.was c.now error reading
            | inr writing ↦ writing_accepted (opened_bytes (holds (journal_name choice other))) o.0 (ap opened_bytes o.1) (journal_place other) c.was c.now error writing
          ]

      numbering : (error : PairError) → RefusesNumber holds choice digest error → IsOutsideOrFull error
      numbering error n =
          let f = some_told n.opened (n.tells ∙ told choice (inl refl)) in
          n.outside f.0 f.1

      choosing : (error : PairError) → RefusesChoice holds choice digest error → IsOpening error
      choosing error (inl is) = is
      choosing error (inr (was, now, c)) = chosen_so was now error c

      thinning : (error : PairError) → RefusesThin holds choice digest error → IsOutsideOrFull error
      thinning error (inl is) = opening_outside error is
      thinning error (inr (inl (was, now, c))) = opening_outside error (chosen_so was now error c)
      thinning error (inr (inr (inl c))) = copying error c
      thinning error (inr (inr (inr n))) = numbering error n

      none_refused : RefusesNone holds images choice digest seed
      none_refused = record { choosing = choosing; playing = playing; thinning = thinning }

    accepts : AcceptsPair holds images choice digest seed
    accepts = record {
      own = record { text = s.stand.text; body = s.stand.body; texts = s.stand.texts; bodies = s.stand.bodies; settled = s.stand.choice };
      journal = journal_settled;
      none = none_refused;
    }

-- ---- the runs

module _ {F T D : Type 0} (holds : F → Files) (images : F → List ℕ → List ℕ → Type 0) (is_open : F → List ℕ → Bool) (may_fail : F → Bool) (faults : F → ℕ)
    (heard_by : T → List Heard) (sent_by : T → List (List ℕ)) (line_faults : T → ℕ) (opened : T → ℕ) (is_shut : T → Bool) (may_leave : D → List ℕ → Type 0) (multidata choice : List ℕ)
    (laws : Laws) (bytes : List ℕ) (seed : Seed) (accepted : SeedOf bytes (Ok seed))
  where
    abbrev digest : List ℕ
    digest = digest_of bytes

    abbrev GoesOn : F → F → Type 0
    GoesOn before next = GoesOnFrom holds images is_open may_fail faults heard_by sent_by line_faults opened is_shut may_leave multidata choice before next

    abbrev Shows : PairRun F T → Type 0
    Shows r = ShowsOn holds images is_open may_fail faults heard_by sent_by line_faults opened is_shut may_leave multidata choice r

    -- what a run told in some steps
    abbrev Told : PairRun F T → List Step → Type 0
    Told (plays r) steps = IsPutAcross seed r.old r.new steps
    Told (hosts named r) steps = AllAcross sent_by seed steps r.served
    Told (checks first last) steps = Unit {0}

    later : (steps more : List Step) (r : PairRun F T) → Told r steps → Told r (steps ++ more)
    later steps more (plays r) h = record { put = h.put; front = h.front; kept = λ k d lt. put_later seed steps more (slice_index_or h.put k d) (h.kept k d lt) }
    later steps more (hosts named r) h =
        every_weaker (λ (e : Served T). AreSentAcross seed steps e.session (sent_by e.line)) (λ (e : Served T). AreSentAcross seed (steps ++ more) e.session (sent_by e.line)) (λ e. texts_later seed steps more e.session (sent_by e.line)) r.served h
    later steps more (checks first last) h = tt

    all_later : (steps more : List Step) (rs : List (PairRun F T)) → AllByRecursion (λ r. Told r steps) rs → AllByRecursion (λ r. Told r (steps ++ more)) rs
    all_later steps more rs h = all_weaker (λ r. Told r steps) (λ r. Told r (steps ++ more)) (λ r. later steps more r) rs h

    -- the folder that a run finds
    stands_first : (before next : F) (steps : List Step) → GoesOn before next → Stands (images before) choice digest seed steps → Stands (images next) choice digest seed steps
    stands_first before next steps g s = record {
      allowed = s.allowed;
      stand = fewer_stand (images before) (images next) digest s.allowed (file_names choice) (file_names choice) (g.fewer choice (inl refl)) (λ n. g.fewer (journal_name choice n) (one_name choice n)) s.stand;
      reached = s.reached;
    }

    -- the seed file that was read is the one that is told
    module _ (first : F) (is : holds first multidata ≡ Some (Some bytes)) (last : F) (steps : List Step) (s : Stands (images first) choice digest seed steps) (g : (n : List ℕ) → IsOneOf choice n → IsTrue (is_some (opened_bytes (holds first n)))) where
      abbrev Around : F → F → FilesAround
      Around a b = files_around holds images is_open may_fail faults a b

      stays_next : (W : List Step → Type 0) → W steps → RoomStays (Around first last) multidata choice → Next (images last) choice digest seed W steps
      stays_next W w stays =
          let still = stays bytes seed is accepted in
          still_next choice digest seed (images first) (images last) steps s W w (stands_still choice digest seed (images first) (images last) steps s still.settled still.journals)

      module _ (read : List ℕ) (of : Seed) (number : ℕ) (found : RoomFound (Around first last) multidata choice read of number) where
        one_read : read ≡ bytes
        one_read = told_bytes (holds first multidata) bytes read is found.seed_was.is_file

        one_of_seed : of ≡ seed
        one_of_seed = one_seed bytes of seed (subst (λ b. SeedOf b (Ok of)) one_read found.seed_was.is) accepted

        names : NamesJournal (opened_bytes (holds first choice)) (images first choice) digest number
        names = subst (λ b. NamesJournal (opened_bytes (holds first choice)) (images first choice) (digest_of b) number) one_read found.names

        chosen : IsChosen (images last) digest number choice
        chosen = subst (λ b. IsChosen (images last) (digest_of b) number choice) one_read found.chosen

        found_next : (K : Life → Type 0) (W : List Step → Type 0) (Q : Type 0) → (Q → W steps)
            → ((before : List Step) → K (life_after_all seed before) → (more : List Step) × IsLeft (images last (journal_name choice number)) digest (life_after_all seed (before ++ more)) × W (before ++ more))
            → ((StaysSettled (images first (journal_name choice number)) (images last (journal_name choice number)) digest × Q)
            ⊎ ((journal : List Record) × (place : ℕ) × IsFound (opened_bytes (holds first (journal_name choice number))) (images first (journal_name choice number)) digest seed journal place × K (new_life seed journal place)))
            → Next (images last) choice digest seed W steps
        found_next K W Q quiet goes_on run =
            played_next choice digest seed (images first) (images last) steps s (opened_bytes (holds first choice)) (g choice (inl refl)) number names chosen K W Q quiet goes_on
            (opened_bytes (holds first (journal_name choice number))) (g (journal_name choice number) (one_name choice number)) run

    run_next : (r : PairRun F T) (steps : List Step) → Stands (images (first_of r)) choice digest seed steps → ((n : List ℕ) → IsOneOf choice n → IsTrue (is_some (opened_bytes (holds (first_of r) n))))
        → holds (first_of r) multidata ≡ Some (Some bytes) → Shows r → Next (images (end_of r)) choice digest seed (Told r) steps
    run_next (plays r) steps s g is (inl (quiet, stays)) =
        stays_next r.first is r.last steps s g (IsPutAcross seed r.old r.new) (record { put = []; front = none_put r.old r.new quiet; kept = All-nil (IsKeptAcross seed steps) }) stays
    run_next (plays r) steps s g is (inr k) =
        let name = journal_name choice k.number in
        let read = one_read r.first is r.last steps s g k.bytes k.seed k.number k.found in
        let of = one_of_seed r.first is r.last steps s g k.bytes k.seed k.number k.found in
        let runs = k.kept.runs (g name (one_name choice k.number)) in
        found_next r.first is r.last steps s g k.bytes k.seed k.number k.found (λ life. KeepsFrom (images r.last name) digest life r.old r.new) (IsPutAcross seed r.old r.new) (WasKept r.old r.new)
        (λ quiet. record { put = []; front = none_put r.old r.new quiet; kept = All-nil (IsKeptAcross seed steps) })
        (λ before from. let a = across_from laws seed before (images r.last name) digest r.old r.new from in (a.more, a.left, record { put = a.put; front = a.front; kept = a.kept }))
        (subst (λ b. KeepsFound (IsFound (opened_bytes (holds r.first name)) (images r.first name) (digest_of b) seed) (StaysSettled (images r.first name) (images r.last name) (digest_of b)) (images r.last name) (digest_of b) seed r.old r.new) read
        (subst (λ e. KeepsFound (IsFound (opened_bytes (holds r.first name)) (images r.first name) (digest_of k.bytes) e) (StaysSettled (images r.first name) (images r.last name) (digest_of k.bytes)) (images r.last name) (digest_of k.bytes) e r.old r.new) of runs))
    run_next (hosts named r) steps s g is (one, own, kept) = by named.multidata named.journal one own kept
      where
        by : (m c : List ℕ) → named.multidata ≡ multidata → named.journal ≡ choice
            → PairServeKeeps heard_by sent_by line_faults opened is_shut may_leave (files_around holds images is_open may_fail faults r.first r.last) named r.served
            → Next (images r.last) choice digest seed (λ ss. AllAcross sent_by seed ss r.served) steps
        by m c one own (inl (none, stays)) =
            stays_next r.first is r.last steps s g (λ ss. AllAcross sent_by seed ss r.served) (subst (AllAcross sent_by seed steps) (sym none) tt)
            (subst (λ x. RoomStays (files_around holds images is_open may_fail faults r.first r.last) x choice) one (subst (λ y. RoomStays (files_around holds images is_open may_fail faults r.first r.last) named.multidata y) own stays))
        by m c one own (inr k) =
            let files = files_around holds images is_open may_fail faults r.first r.last in
            let name = journal_name choice k.number in
            let found = subst (λ x. RoomFound files x choice k.bytes k.seed k.number) one (subst (λ y. RoomFound files named.multidata y k.bytes k.seed k.number) own k.found) in
            let read = one_read r.first is r.last steps s g k.bytes k.seed k.number found in
            let of = one_of_seed r.first is r.last steps s g k.bytes k.seed k.number found in
            let keeps = k.kept bytes seed (ap (holds r.first) one ∙ is) accepted in
            let runs = subst (λ y. SendsFound sent_by (IsFound (opened_bytes (holds r.first (journal_name y k.number))) (images r.first (journal_name y k.number)) digest seed) (StaysSettled (images r.first (journal_name y k.number)) (images r.last (journal_name y k.number)) digest) (images r.last (journal_name y k.number)) digest seed r.served) own keeps.runs in
            found_next r.first is r.last steps s g k.bytes k.seed k.number found (λ life. SendsFrom sent_by (images r.last name) digest life r.served) (λ ss. AllAcross sent_by seed ss r.served) (r.served ≡ [])
            (λ none. subst (AllAcross sent_by seed steps) (sym none) tt)
            (λ before from. let a = sends_across sent_by laws (images r.last name) digest seed r.served before from in (a.more, a.settled, a.sent))
            runs
    run_next (checks first last) steps s g is keeps =
        let kept = keeps bytes seed is accepted in
        let f = some_told (opened_bytes (holds first choice)) (g choice (inl refl)) in
        still_next choice digest seed (images first) (images last) steps s (λ ss. Unit {0}) tt
        (stands_thinned choice digest seed (images first) (images last) steps s
        (kept.settled s.allowed (record { bytes = f.0; tells = f.1; stand = s.stand }) (λ n. g (journal_name choice n) (one_name choice n))))

    -- ---- all of them

    record Came (folder : F) (rs : List (PairRun F T)) (before : List Step) : Type 0 where
      more : List Step
      stands : Stands (images (last_of holds images is_open may_fail faults heard_by sent_by line_faults opened is_shut may_leave multidata choice folder rs)) choice digest seed (before ++ more)
      all_told : AllByRecursion (λ r. Told r (before ++ more)) rs

    abbrev Last : F → List (PairRun F T) → F
    Last folder rs = last_of holds images is_open may_fail faults heard_by sent_by line_faults opened is_shut may_leave multidata choice folder rs

    come : (folder : F) (rs : List (PairRun F T)) (before : List Step) → Stands (images folder) choice digest seed before → AreRuns holds images is_open may_fail faults heard_by sent_by line_faults opened is_shut may_leave multidata choice bytes folder rs
        → Came folder rs before
    come folder [] before s h = record { more = []; stands = subst (Stands (images folder) choice digest seed) (sym (append-nil before)) s; all_told = tt }
    come folder (r ∷ rs) before s h =
        let n = run_next r before (stands_first folder (first_of r) before h.0 s) h.0.told h.1 h.2 in
        let rest = come (end_of r) rs (before ++ n.more) n.stands h.3 in
        let same = append_assoc before n.more rest.more in
        record {
          more = n.more ++ rest.more;
          stands = subst (Stands (images (Last (end_of r) rs)) choice digest seed) same rest.stands;
          all_told = subst (λ ss. Told r ss × AllByRecursion (λ x. Told x ss) rs) same (later (before ++ n.more) rest.more r n.told, rest.all_told);
        }

    -- what a run told is kept by a journal that is left after the steps
    run_kept : (steps more : List Step) (journal : List Record) → journal_after seed (steps ++ more) ≡ journal → (r : PairRun F T) → Told r steps
        → KeepsPairRun holds images is_open may_fail faults heard_by sent_by line_faults opened is_shut may_leave multidata choice seed steps journal r
    run_kept steps more journal is (plays r) h = record { put = h.put; front = h.front; kept = λ k d lt. put_kept seed steps more journal is (slice_index_or h.put k d) (h.kept k d lt) }
    run_kept steps more journal is (hosts named r) h =
        every_weaker (λ (e : Served T). AreSentAcross seed steps e.session (sent_by e.line)) (λ (e : Served T). KeepsTextsAcross seed steps journal e.session (sent_by e.line)) (λ e. texts_kept seed steps more journal is e.session (sent_by e.line)) r.served h
    run_kept steps more journal is (checks first last) h = tt

    pub pair_kept : ItemsComeOnce → JournalsAreNamed → ((folder : F) (n c : List ℕ) → holds folder n ≡ Some (Some c) → images folder n c) → (made : F) (runs : List (PairRun F T)) → ((n : List ℕ) → IsOneOf choice n → AllShut (images made n) digest [] 40)
        → AreRuns holds images is_open may_fail faults heard_by sent_by line_faults opened is_shut may_leave multidata choice bytes made runs
        → ArePairKept holds images is_open may_fail faults heard_by sent_by line_faults opened is_shut may_leave multidata choice seed digest made runs
    pair_kept once naming may_stay made runs shut are =
        let c = come made runs [] (stands_made choice digest seed (images made) shut) are in
        let end = Last made runs in
        record {
          steps = c.more;
          kept = λ next number journal place g names found.
              let s = stands_first end next c.more g c.stands in
              let r = found_reached choice digest seed (images next) (images next) c.more s (opened_bytes (holds next choice)) (g.told choice (inl refl)) number names
              (opened_bytes (holds next (journal_name choice number))) (g.told (journal_name choice number) (one_name choice number)) journal place found in
              let life = reached_life seed c.more journal r place in
              let is : journal_after seed (c.more ++ life.0) ≡ journal = ap (λ (l : Life). l.room.journal) (sym life.1) in (
                all_weaker (λ x. Told x c.more) (λ x. KeepsPairRun holds images is_open may_fail faults heard_by sent_by line_faults opened is_shut may_leave multidata choice seed c.more journal x) (run_kept c.more life.0 journal is) runs c.all_told,
                once seed journal,
              );
          accepted = λ next g.
              accepts naming seed (names_fit seed (file_kept bytes seed accepted)) choice digest c.more (holds next) (images next) (stands_first end next c.more g c.stands) g.told (may_stay next);
        }
