-- What a run did alone, in a life to which a run of lives came: what it put is kept.
use Rattle.std.proofs.Common.{◌≡◌, ◌∙◌, ℕ, List, [], ◌∷◌, ◌++◌, Option, Some, None, true, refl, sym, ap, subst, inl, inr, append_assoc, append-nil}
use Rattle.std.proofs.lemmas.List.Elements.{All-contains, All-nil}
use Rattle.std.specs.Io.KnownBytes.{Keeps as WasKept}
use Rattle.std.specs.Option.{is_some}
use Rattle.std.specs.Prelude.{All, Contains, slice_index_or}
use Rattle.mw_edges.specs.Causes.{PutsFront}
use Rattle.mw_model.specs.Seed.{Seed}
use Rattle.mw_protocol.specs.Connecting.{Member}
use Rattle.mw_protocol.specs.Lives.{Life, Luck, Step, takes, crashes, after, after_all, committed_of, fine, life_after_all, new_life, untaken_in}
use Rattle.mw_protocol.specs.Records.{Record}
use Rattle.mw_protocol.specs.Rooms.{Message, member_in}
use Rattle.mw_protocol.specs.Spelled.{records_bytes}
use Rattle.mw_laws.specs.Kept.{Passes, journal_after}
use Rattle.mw_laws.specs.Shows.{MayPlayAs, ShowsChecked, ShownIsChecked}
use Rattle.mw_laws.specs.Tails.{AreTails, TailsOfTheLastView, taking}
use Rattle.mw_keep.specs.Left.{IsLeft}
use Rattle.mw_keep.proofs.Leaving.{anew_so, committed_records, first_records}
use Rattle.mw_drive.specs.Drive.{Put, gone, overrun, message}
use Rattle.mw_drive.specs.Ends.{IsFound, StaysSettled}
use Rattle.mw_drive.specs.Left.{IsKept, IsPutFrom, IsTaken, IsTold, KeepsFound, KeepsFrom, KeepsShown}
use Rattle.mw_drive.proofs.Calling.{all_after}

-- ---- a step before

put_before : (life : Life) (s : Step) (steps : List Step) (p : Put) → IsPutFrom (after life s) steps p → IsPutFrom life (s ∷ steps) p
put_before life s steps (gone session) h = tt
put_before life s steps (overrun session) h = tt
put_before life s steps (message session member m) h = record {
  front = s ∷ h.front;
  back = h.back;
  goes_on = ap (λ ss. s ∷ ss) h.goes_on;
  passes = h.passes;
  plays = h.plays;
  taken = h.taken;
}

from_before : (images : List ℕ → Type 0) (digest : List ℕ) (life : Life) (s : Step) (old new : Option (List ℕ)) → KeepsFrom images digest (after life s) old new → KeepsFrom images digest life old new
from_before images digest life s old new k = record {
  steps = s ∷ k.steps;
  left = k.left;
  put = k.put;
  front = k.front;
  taken = λ i d lt. put_before life s k.steps (slice_index_or k.put i d) (k.taken i d lt);
}

-- ---- from the records that were found, to a life for which what a crash left was settled

pub none_put : (old new : Option (List ℕ)) → WasKept old new → PutsFront old new []
none_put None new kept = ([], [], refl, tt)
none_put (Some x) None kept = absurd kept
none_put (Some x) (Some y) kept = ([], [], refl, kept ∙ sym (append-nil x))

pub some_told : (told : Option (List ℕ)) → is_some told ≡ true → (f : List ℕ) × (told ≡ Some f)
some_told None h = cc
some_told (Some f) h = (f, refl)

-- what was left stays so where what was settled does
pub left_stays : (before after : List ℕ → Type 0) (digest : List ℕ) (life : Life) → StaysSettled before after digest → IsLeft before digest life → IsLeft after digest life
left_stays before after digest life stays was = record {
  records = was.records;
  batch = was.batch;
  first = was.first;
  settled = stays (records_bytes (committed_of life)) (records_bytes was.batch) was.settled;
}

-- the records that were found are those that a crash in that life left
pub found_anew : (told : Option (List ℕ)) (images : List ℕ → Type 0) (digest : List ℕ) (seed : Seed) (journal : List Record) (place : ℕ) → IsFound told images digest seed journal place → is_some told ≡ true
    → (life : Life) → life.room.seed ≡ seed → IsLeft images digest life → (more : ℕ) × (new_life seed journal place ≡ after life (crashes more place))
found_anew told images digest seed journal place found some life of was =
    let f = some_told told some in
    anew_so life seed was.batch journal place of was.first
    (found.one f.0 (committed_of life) was.batch f.1 (committed_records life was.records) (first_records life was.batch was.first was.records) was.settled)

pub from_found : (told : Option (List ℕ)) (images left : List ℕ → Type 0) (digest : List ℕ) (seed : Seed) (old new : Option (List ℕ))
    → KeepsFound (IsFound told images digest seed) (StaysSettled images left digest) left digest seed old new → is_some told ≡ true
    → (life : Life) → life.room.seed ≡ seed → IsLeft images digest life → KeepsFrom left digest life old new
from_found told images left digest seed old new (inl (stays, quiet)) some life of was =
    record { steps = []; left = left_stays images left digest life stays was; put = []; front = none_put old new quiet; taken = All-nil (IsPutFrom life []) }
from_found told images left digest seed old new (inr (journal, place, found, k)) some life of was =
    let anew = found_anew told images digest seed journal place found some life of was in
    from_before left digest life (crashes anew.0 place) old new (subst (λ l. KeepsFrom left digest l old new) anew.1 k)

-- ---- what was taken is kept

module _ (shown : ShownIsChecked) (view_tails : TailsOfTheLastView) (seed : Seed) (before steps : List Step) (session : ℕ) (luck : Luck) (member : Option Member) (m : Message)
    (t : IsTaken (life_after_all seed before) steps session luck member m)
  where
    -- the steps to the life in which it was taken, and that life
    abbrev pub then : List Step
    then = before ++ t.front

    here : after_all (life_after_all seed before) t.front ≡ life_after_all seed then
    here = sym (all_after before (new_life seed [] 40) t.front)

    passes_then : Passes (life_after_all seed then) (takes session) luck
    passes_then = subst (λ l. Passes l (takes session) luck) here t.passes

    pub plays_then : member_in (life_after_all seed then).room.sessions session ≡ member
    plays_then = ap (λ l. member_in l.room.sessions session) (sym here) ∙ t.plays

    pub taken_then : Contains (untaken_in (life_after_all seed then) session) m
    taken_then = subst (λ l. Contains (untaken_in l session) m) here t.taken

    pub run_then : before ++ steps ≡ then ++ taking session luck ∷ t.back
    run_then = ap (λ ss. before ++ ss) t.goes_on ∙ sym (append_assoc before t.front (taking session luck ∷ t.back))

    pub tails_then : AreTails seed then session luck m
    tails_then = All-contains (AreTails seed then session luck) (untaken_in (life_after_all seed then) session) m (view_tails.taken seed then session luck passes_then) taken_then

    pub shows_then : (later : List Step) (k : Member) → MayPlayAs k member → ShowsChecked seed (journal_after seed ((before ++ steps) ++ later)) k m
    shows_then later k plays =
        let run : (before ++ steps) ++ later ≡ then ++ taking session luck ∷ (t.back ++ later) = ap (λ ss. ss ++ later) run_then ∙ append_assoc then (taking session luck ∷ t.back) later in
        subst (λ ss. ShowsChecked seed (journal_after seed ss) k m) (sym run)
        (All-contains (ShowsChecked seed (journal_after seed (then ++ taking session luck ∷ (t.back ++ later))) k) (untaken_in (life_after_all seed then) session) m
        (shown.taken seed then session luck k passes_then (subst (MayPlayAs k) (sym plays_then) plays) (t.back ++ later)) taken_then)

-- ---- along each run that goes on

told_later : (seed : Seed) (steps more : List Step) (session : ℕ) (member : Option Member) (m : Message) → IsTold seed steps session member m → IsTold seed (steps ++ more) session member m
told_later seed steps more session member m t = record {
  front = t.front;
  back = t.back ++ more;
  goes_on = ap (λ s. s ++ more) t.goes_on ∙ append_assoc t.front (taking session fine ∷ t.back) more;
  taken = t.taken;
  tails = t.tails;
  shows = λ later k plays. subst (λ s. ShowsChecked seed (journal_after seed s) k m) (sym (append_assoc steps more later)) (t.shows (more ++ later) k plays);
}

kept_one : (seed : Seed) (steps more : List Step) (p : Put) → IsKept seed steps p → IsKept seed (steps ++ more) p
kept_one seed steps more (gone session) h = tt
kept_one seed steps more (overrun session) h = tt
kept_one seed steps more (message session member m) h = told_later seed steps more session member m h

pub kept_later : (seed : Seed) (steps more : List Step) (ps : List Put) → All (IsKept seed steps) ps → All (IsKept seed (steps ++ more)) ps
kept_later seed steps more ps h k d lt = kept_one seed steps more (slice_index_or ps k d) (h k d lt)

-- ---- all that was put

module _ (shown : ShownIsChecked) (view_tails : TailsOfTheLastView) (seed : Seed) (before : List Step) where
  put_kept : (steps : List Step) (p : Put) → IsPutFrom (life_after_all seed before) steps p → IsKept seed (before ++ steps) p
  put_kept steps (gone session) h = tt
  put_kept steps (overrun session) h = tt
  put_kept steps (message session member m) h = record {
    front = then shown view_tails seed before steps session fine member m h;
    back = h.back;
    goes_on = run_then shown view_tails seed before steps session fine member m h;
    taken = taken_then shown view_tails seed before steps session fine member m h;
    tails = tails_then shown view_tails seed before steps session fine member m h;
    shows = shows_then shown view_tails seed before steps session fine member m h;
  }

  pub shown_from : (images : List ℕ → Type 0) (digest : List ℕ) (old new : Option (List ℕ)) → KeepsFrom images digest (life_after_all seed before) old new → KeepsShown images digest seed before old new
  shown_from images digest old new k = record {
    more = k.steps;
    left = subst (IsLeft images digest) (sym (all_after before (new_life seed [] 40) k.steps)) k.left;
    put = k.put;
    front = k.front;
    kept = λ i d lt. put_kept k.steps (slice_index_or k.put i d) (k.taken i d lt);
  }
