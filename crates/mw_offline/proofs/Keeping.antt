-- What a run did alone, on a journal that runs of lives led to, with checkpoints between them or without: what it put is kept.
use Rattle.std.proofs.Common.{◌≡◌, ◌∙◌, ℕ, List, [], ◌∷◌, ◌++◌, Option, Some, None, map, inl, refl, sym, ap, subst, append_assoc, append-nil}
use Rattle.std.proofs.KnownBytes.{Keeps-refl}
use Rattle.std.proofs.lemmas.List.{map-append}
use Rattle.std.proofs.lemmas.List.Elements.{All-contains, All-nil}
use Rattle.std.specs.Io.KnownBytes.{Keeps as WasKept}
use Rattle.std.specs.Prelude.{Contains, slice_index_or}
use Rattle.mw_edges.specs.Folders.{opened_bytes}
use Rattle.mw_model.specs.Seed.{Seed}
use Rattle.mw_protocol.specs.Connecting.{Member}
use Rattle.mw_protocol.specs.Lives as lives
use Rattle.mw_protocol.specs.Lives.{Life, Luck, Call, happens, commits, takes, Outcome, passes, lacks, stops, Reply, fine, life_of, life_unless, new_life, outcome, refusal, untaken_in}
use Rattle.mw_protocol.specs.Rooms.{Room, Event, Message, opened, sent, failed, lost, member_in, next}
use Rattle.mw_laws.specs.Kept.{Passes}
use Rattle.mw_laws.specs.Shows.{MayPlayAs, ShownIsChecked, ShowsChecked}
use Rattle.mw_laws.specs.Tails.{TailsOfTheLastView, taking}
use Rattle.mw_thinning.specs.Across.{AreTails, ShownAcross, TailsAcross, took}
use Rattle.mw_thinning.specs.Checkpoints.{Step, goes, thins, after, after_all, journal_after, life_after_all}
use Rattle.mw_keep.specs.Left.{IsLeft}
use Rattle.mw_drive.specs.Drive.{Put, gone, overrun, message}
use Rattle.mw_drive.specs.Left.{IsKept, IsPutFrom, IsTaken, KeepsFrom, KeepsShown}
use Rattle.mw_drive.proofs.Telling.{from_found, none_put, shown_from}
use Rattle.mw_offline.specs.Across.{IsKeptAcross, IsToldAcross, KeepsAcross}
use Rattle.mw_offline.specs.Driving.{JournalKeeps, JournalRuns, JournalShows, JournalShowsAcross, NoImages}
use Rattle.mw_offline.specs.FilesAround.{FilesAround}

-- ---- the seed of a life

next_seed : (room : Room) (event : Event) → (next room event).seed ≡ room.seed
next_seed room (opened time) = refl
next_seed room (sent number packet) = refl
next_seed room (failed number bad) = refl
next_seed room (lost number) = refl

call_seed : (life : Life) (call : Call) (o : Outcome) → (life_of life call o).room.seed ≡ life.room.seed
call_seed life (happens event) passes = next_seed life.room event
call_seed life commits passes = refl
call_seed life (takes number) passes = refl
call_seed life call lacks = refl
call_seed life call (stops cause) = refl

unless_seed : (refused : Option Reply) (life then : Life) → then.room.seed ≡ life.room.seed → (life_unless refused life then).room.seed ≡ life.room.seed
unless_seed None life then same = same
unless_seed (Some reply) life then same = refl

step_seed : (life : Life) (s : lives.Step) → (lives.after life s).room.seed ≡ life.room.seed
step_seed life (lives.acts call luck) = unless_seed (refusal life call) life (life_of life call (outcome life call luck)) (call_seed life call (outcome life call luck))
step_seed life (lives.crashes more place) = refl

pub plain_seed : (life : Life) (steps : List lives.Step) → (lives.after_all life steps).room.seed ≡ life.room.seed
plain_seed life [] = refl
plain_seed life (s ∷ ss) = plain_seed (lives.after life s) ss ∙ step_seed life s

after_seed : (life : Life) (s : Step) → (after life s).room.seed ≡ life.room.seed
after_seed life (goes s) = step_seed life s
after_seed life (thins more place) = refl

pub across_seed : (life : Life) (steps : List Step) → (after_all life steps).room.seed ≡ life.room.seed
across_seed life [] = refl
across_seed life (s ∷ ss) = across_seed (after life s) ss ∙ after_seed life s

-- ---- steps without checkpoints among those with them

pub across_append : (front : List Step) (life : Life) (back : List Step) → after_all life (front ++ back) ≡ after_all (after_all life front) back
across_append [] life back = refl
across_append (s ∷ ss) life back = across_append ss (after life s) back

pub across_plain : (life : Life) (steps : List lives.Step) → after_all life (map goes steps) ≡ lives.after_all life steps
across_plain life [] = refl
across_plain life (s ∷ ss) = across_plain (lives.after life s) ss

pub gone_on : (seed : Seed) (before : List Step) (steps : List lives.Step) → lives.after_all (life_after_all seed before) steps ≡ life_after_all seed (before ++ map goes steps)
gone_on seed before steps = sym (across_append before (new_life seed [] 40) (map goes steps) ∙ across_plain (life_after_all seed before) steps)

-- ---- what was taken is kept

-- the laws of runs of lives by which it is
pub record Laws : Type 0 where
  pub shown : ShownIsChecked
  pub tails : TailsOfTheLastView
  pub shown_across : ShownAcross
  pub tails_across : TailsAcross

module _ (laws : Laws) (seed : Seed) (before : List Step) (steps : List lives.Step) (session : ℕ) (luck : Luck) (member : Option Member) (m : Message)
    (t : IsTaken (life_after_all seed before) steps session luck member m)
  where
    -- the steps to the life in which it was taken
    abbrev then : List Step
    then = before ++ map goes t.front

    abbrev rest : List Step
    rest = map goes t.back

    here : lives.after_all (life_after_all seed before) t.front ≡ life_after_all seed then
    here = gone_on seed before t.front

    passes_then : Passes (life_after_all seed then) (takes session) luck
    passes_then = subst (λ l. Passes l (takes session) luck) here t.passes

    plays_then : member_in (life_after_all seed then).room.sessions session ≡ member
    plays_then = ap (λ l. member_in l.room.sessions session) (sym here) ∙ t.plays

    taken_then : Contains (untaken_in (life_after_all seed then) session) m
    taken_then = subst (λ l. Contains (untaken_in l session) m) here t.taken

    run_then : before ++ map goes steps ≡ took then session luck rest
    run_then =
        ap (λ ss. before ++ map goes ss) t.goes_on
        ∙ ap (λ ss. before ++ ss) (map-append goes t.front (taking session luck ∷ t.back))
        ∙ sym (append_assoc before (map goes t.front) (goes (taking session luck) ∷ rest))

    shows_then : (later : List Step) (k : Member) → MayPlayAs k member → ShowsChecked seed (journal_after seed ((before ++ map goes steps) ++ later)) k m
    shows_then later k plays =
        let run : (before ++ map goes steps) ++ later ≡ took then session luck (rest ++ later) = ap (λ ss. ss ++ later) run_then ∙ append_assoc then (goes (taking session luck) ∷ rest) later in
        subst (λ ss. ShowsChecked seed (journal_after seed ss) k m) (sym run)
        (All-contains (ShowsChecked seed (journal_after seed (took then session luck (rest ++ later))) k) (untaken_in (life_after_all seed then) session) m
        (laws.shown_across seed then session luck k passes_then (subst (MayPlayAs k) (sym plays_then) plays) (rest ++ later)) taken_then)

    pub told_across : IsToldAcross seed (before ++ map goes steps) session luck member m
    told_across = record {
      front = then;
      back = rest;
      goes_on = run_then;
      plays = plays_then;
      taken = taken_then;
      tails = All-contains (AreTails seed then session luck) (untaken_in (life_after_all seed then) session) m (laws.tails_across seed then session luck passes_then) taken_then;
      shows = shows_then;
    }

module _ (laws : Laws) (seed : Seed) (before : List Step) where
  put_across : (steps : List lives.Step) (p : Put) → IsPutFrom (life_after_all seed before) steps p → IsKeptAcross seed (before ++ map goes steps) p
  put_across steps (gone session) h = tt
  put_across steps (overrun session) h = tt
  put_across steps (message session member m) h = told_across laws seed before steps session fine member m h

  pub across_from : (images : List ℕ → Type 0) (digest : List ℕ) (old new : Option (List ℕ)) → KeepsFrom images digest (life_after_all seed before) old new → KeepsAcross images digest seed before old new
  across_from images digest old new k = record {
    more = map goes k.steps;
    left = subst (IsLeft images digest) (gone_on seed before k.steps) k.left;
    put = k.put;
    front = k.front;
    kept = λ i d lt. put_across k.steps (slice_index_or k.put i d) (k.taken i d lt);
  }

-- ---- by a journal

module _ (laws : Laws) (files : FilesAround) (digest : List ℕ) (seed : Seed) (old new : Option (List ℕ)) where
  runs_shown : (journal : Option (List ℕ)) → JournalRuns files journal digest seed old new → JournalShows files journal digest seed old new
  runs_shown None k = shown_from laws.shown laws.tails seed [] NoImages digest old new k
  runs_shown (Some name) k = λ steps some left.
      shown_from laws.shown laws.tails seed steps (files.may_leave name) digest old new
      (from_found (opened_bytes (files.before name)) (files.might_leave name) (files.may_leave name) digest seed old new (k some) some (lives.life_after_all seed steps) (plain_seed (new_life seed [] 40) steps) left)

  runs_across : (journal : Option (List ℕ)) → JournalRuns files journal digest seed old new → JournalShowsAcross files journal digest seed old new
  runs_across None k = across_from laws seed [] NoImages digest old new k
  runs_across (Some name) k = λ steps some left.
      across_from laws seed steps (files.may_leave name) digest old new
      (from_found (opened_bytes (files.before name)) (files.might_leave name) (files.may_leave name) digest seed old new (k some) some (life_after_all seed steps) (across_seed (new_life seed [] 40) steps) left)

  pub journal_keeps : (journal : Option (List ℕ)) → JournalRuns files journal digest seed old new → JournalKeeps files journal digest seed old new
  journal_keeps journal k = record { runs = k; shown = runs_shown journal k; across = runs_across journal k }

-- ---- nothing was put

pub quiet_from : (images : List ℕ → Type 0) (digest : List ℕ) (life : Life) (old new : Option (List ℕ)) → WasKept old new → IsLeft images digest life → KeepsFrom images digest life old new
quiet_from images digest life old new quiet is = record { steps = []; left = is; put = []; front = none_put old new quiet; taken = All-nil (IsPutFrom life []) }

-- no journal is kept
pub nothing_left : {seed : Seed} {digest : List ℕ} → IsLeft NoImages digest (new_life seed [] 40)
nothing_left = record { records = tt; batch = []; first = ([], refl); settled = λ c never. absurd never }

module _ (left : List ℕ → Type 0) (digest : List ℕ) (seed : Seed) (held : Option (List ℕ)) where
  quiet_shown : (steps : List lives.Step) → IsLeft left digest (lives.life_after_all seed steps) → KeepsShown left digest seed steps held held
  quiet_shown steps is = record {
    more = [];
    left = subst (λ l. IsLeft left digest (lives.life_after_all seed l)) (sym (append-nil steps)) is;
    put = [];
    front = none_put held held (Keeps-refl held);
    kept = All-nil (IsKept seed (steps ++ []));
  }

  quiet_across : (steps : List Step) → IsLeft left digest (life_after_all seed steps) → KeepsAcross left digest seed steps held held
  quiet_across steps is = record {
    more = [];
    left = subst (λ l. IsLeft left digest (life_after_all seed l)) (sym (append-nil steps)) is;
    put = [];
    front = none_put held held (Keeps-refl held);
    kept = All-nil (IsKeptAcross seed (steps ++ []));
  }

-- of files of which a crash may leave only what it might have left
module _ (files : FilesAround) (fewer : (name c : List ℕ) → files.may_leave name c → files.might_leave name c) (digest : List ℕ) (seed : Seed) (held : Option (List ℕ)) where
  still : (name : List ℕ) (life : Life) → IsLeft (files.might_leave name) digest life → IsLeft (files.may_leave name) digest life
  still name life is = record { records = is.records; batch = is.batch; first = is.first; settled = λ c image. is.settled c (fewer name c image) }

  pub still_runs : (journal : Option (List ℕ)) → JournalRuns files journal digest seed held held
  still_runs None = quiet_from NoImages digest (new_life seed [] 40) held held (Keeps-refl held) nothing_left
  still_runs (Some name) = λ some. inl ((λ text body settled c image. settled c (fewer name c image)), Keeps-refl held)

  still_shown : (journal : Option (List ℕ)) → JournalShows files journal digest seed held held
  still_shown None = quiet_shown NoImages digest seed held [] nothing_left
  still_shown (Some name) = λ steps some is. quiet_shown (files.may_leave name) digest seed held steps (still name (lives.life_after_all seed steps) is)

  still_across : (journal : Option (List ℕ)) → JournalShowsAcross files journal digest seed held held
  still_across None = quiet_across NoImages digest seed held [] nothing_left
  still_across (Some name) = λ steps some is. quiet_across (files.may_leave name) digest seed held steps (still name (life_after_all seed steps) is)

  pub still_keeps : (journal : Option (List ℕ)) → JournalKeeps files journal digest seed held held
  still_keeps journal = record { runs = still_runs journal; shown = still_shown journal; across = still_across journal }
