-- What a room's lives keep.
use mathlib.Core.List.{IsPrefix}
use Rattle.std.proofs.Common.{◌≡◌, ◌⊎◌, inl, inr, ℕ, ◌+◌, ◌≤◌, ◌^◌, ◌&&◌, List, Bool, true, false, not, ◌∷◌, [], ◌++◌, Option, Some, None, IsTrue, nat_le, length, take, refl, sym, ap, subst, ◌∙◌, append-nil, arith, true≢false, le_refl, le_trans, le_of_eq}
use Rattle.std.proofs.lemmas.Bool.{and_parts, cond_both}
use Rattle.std.proofs.lemmas.List.{length-take-le}
use Rattle.std.specs.List.{list_all}
use Rattle.mw_model.specs.Seed.{Seed}
use Rattle.mw_protocol.specs.Lives.{Life, Call, happens, commits, takes, Luck, StopCause, Reply, overrun, stopped, Outcome, passes, lacks, stops, Step, acts, crashes, too_many_calls, new_life, named_by, ends, refused_to, refused_in, refused_by, refusal, append_of, outcome, records_of, answer_to, answer, reply_of, reply_to, reply_unless, room_then, committed_then, life_of, life_unless, life_after, left_by, life_anew, after, after_all, life_after_all}
use Rattle.mw_protocol.specs.Records.{Record}
use Rattle.mw_protocol.specs.Rooms.{Room, Session, Event, opened, sent, failed, lost, session_in}
use Rattle.mw_laws.specs.Kept.{Passes, is_done, is_call, journal_after, committed_after, CallKeeps, LivesKeep}
use Rattle.mw_laws.proofs.Journals.{next_journal, next_seed}
use Rattle.mw_laws.proofs.Prefixes.{prefix_same, prefix_through, prefix_length, prefix_take, prefix_taken}
use Rattle.mw_laws.proofs.Runs.{life_after_call, room_after_call, later_life}

-- ---- which calls are answered as done

-- no refusal says that its call is done
abbrev Undone : Option Reply → Type 0
Undone None = Unit {0}
Undone (Some reply) = is_done reply ≡ false

to_undone : (ending : Bool) (found : Option Session) → Undone (refused_to ending found)
to_undone ending None = refl
to_undone ending (Some s) = cond_both (s.overrun && not ending) (Some overrun) None Undone (λ _. refl) (λ _. tt)

in_undone : (room : Room) (ending : Bool) (named : Option ℕ) → Undone (refused_in room ending named)
in_undone room ending None = tt
in_undone room ending (Some number) = to_undone ending (session_in room.sessions number)

by_undone : (cause : Option StopCause) (calls : ℕ) (otherwise : Option Reply) → Undone otherwise → Undone (refused_by cause calls otherwise)
by_undone (Some cause) calls otherwise h = refl
by_undone None calls otherwise h = cond_both (nat_le (2 ^ 63) calls) (Some (stopped (too_many_calls (2 ^ 63)))) otherwise Undone (λ _. refl) (λ _. h)

refusal_undone : (life : Life) (call : Call) → Undone (refusal life call)
refusal_undone life call = by_undone life.stopped life.calls (refused_in life.room (ends call) (named_by call)) (in_undone life.room (ends call) (named_by call))

event_done : (room : Room) (event : Event) → is_done (answer_to room event) ≡ true
event_done room (opened time) = refl
event_done room (sent number packet) = refl
event_done room (failed number bad) = refl
event_done room (lost number) = refl

answer_done : (room : Room) (call : Call) → is_done (answer room call) ≡ true
answer_done room (happens event) = event_done room event
answer_done room commits = refl
answer_done room (takes number) = refl

module _ (life : Life) (call : Call) (luck : Luck) where
  pub passed_reply : Passes life call luck → reply_to life call luck ≡ answer life.room call
  passed_reply h = ap (λ refused. reply_unless refused (reply_of life.room call (outcome life call luck))) h.accepted ∙ ap (reply_of life.room call) h.passed

  done_outcome : refusal life call ≡ None → (out : Outcome) → outcome life call luck ≡ out → IsTrue (is_done (reply_of life.room call out)) → Passes life call luck
  done_outcome accepted passes passed h = record { accepted = accepted; passed = passed }
  done_outcome accepted lacks is h = absurd (true≢false (sym h))
  done_outcome accepted (stops cause) is h = absurd (true≢false (sym h))

  done_refusal : (refused : Option Reply) → refusal life call ≡ refused → Undone refused → IsTrue (is_done (reply_unless refused (reply_of life.room call (outcome life call luck)))) → Passes life call luck
  done_refusal None accepted undone h = done_outcome accepted (outcome life call luck) refl h
  done_refusal (Some reply) is undone h = absurd (true≢false (sym h ∙ undone))

  pub done_passes : IsTrue (is_done (reply_to life call luck)) → Passes life call luck
  done_passes h = done_refusal (refusal life call) refl (refusal_undone life call) h

  -- ---- what a call leaves

  passed_life : Passes life call luck → life_after life call luck ≡ life_of life call passes
  passed_life h = ap (λ refused. life_unless refused life (life_of life call (outcome life call luck))) h.accepted ∙ ap (life_of life call) h.passed

  pub passed_room : Passes life call luck → (life_after life call luck).room ≡ room_then life.room call
  passed_room h = ap (λ then. then.room) (passed_life h)

  pub passed_committed : Passes life call luck → (life_after life call luck).committed ≡ committed_then life (append_of life call)
  passed_committed h = ap (λ then. then.committed) (passed_life h)

  other_room : (Passes life call luck → ⊥) → (life_after life call luck).room ≡ life.room
  other_room fails = room_after_call life call luck (λ room. room ≡ life.room) refl (λ h. absurd (fails h))

  other_committed : (Passes life call luck → ⊥) → (life_after life call luck).committed ≡ life.committed
  other_committed fails = life_after_call life call luck (λ _ committed. committed ≡ life.committed) refl (λ h. absurd (fails h))

-- a call records what it makes
pub call_journal : (room : Room) (call : Call) → (room_then room call).journal ≡ room.journal ++ records_of room call
call_journal room (happens event) = next_journal room event
call_journal room commits = sym (append-nil room.journal)
call_journal room (takes number) = sym (append-nil room.journal)

pub call_seed : (room : Room) (call : Call) → (room_then room call).seed ≡ room.seed
call_seed room (happens event) = next_seed room event
call_seed room commits = refl
call_seed room (takes number) = refl

call_keeps : (life : Life) (call : Call) (luck : Luck) → CallKeeps life call luck
call_keeps life call luck = record {
  done = (done_passes life call luck, λ h. ap is_done (passed_reply life call luck h) ∙ answer_done life.room call);
  room = passed_room life call luck;
  records = λ h. ap (λ room. room.journal) (passed_room life call luck h) ∙ call_journal life.room call;
  committed = passed_committed life call luck;
  otherwise = other_room life call luck;
  uncommitted = other_committed life call luck;
}

-- ---- along a run

pub step_seed : (life : Life) (s : Step) → (after life s).room.seed ≡ life.room.seed
step_seed life (acts call luck) = room_after_call life call luck (λ room. room.seed ≡ life.room.seed) refl (λ _. call_seed life.room call)
step_seed life (crashes more place) = refl

pub all_seed : (life : Life) (steps : List Step) → (after_all life steps).room.seed ≡ life.room.seed
all_seed life [] = refl
all_seed life (s ∷ ss) = all_seed (after life s) ss ∙ step_seed life s

-- within a life the journal only grows
step_grows : (life : Life) (s : Step) → IsTrue (is_call s) → IsPrefix life.room.journal (after life s).room.journal
step_grows life (acts call luck) is =
    room_after_call life call luck (λ room. IsPrefix life.room.journal room.journal) (prefix_same life.room.journal) (λ _. (records_of life.room call, sym (call_journal life.room call)))
step_grows life (crashes more place) is = absurd (true≢false (sym is))

all_grows : (life : Life) (steps : List Step) → IsTrue (list_all is_call steps) → IsPrefix life.room.journal (after_all life steps).room.journal
all_grows life [] calls = prefix_same life.room.journal
all_grows life (s ∷ ss) calls =
    let parts = and_parts (is_call s) (list_all is_call ss) calls in
    prefix_through life.room.journal (after life s).room.journal (after_all (after life s) ss).room.journal (step_grows life s parts.0) (all_grows (after life s) ss parts.1)

-- ---- what is committed

-- an append commits all of the journal, or nothing more
committed_within : (life : Life) (records : List Record) → life.committed ≤ length life.room.journal → committed_then life records ≤ length life.room.journal
committed_within life [] within = within
committed_within life (r ∷ rs) within = le_refl (length life.room.journal)

pub committed_rises : (life : Life) (records : List Record) → life.committed ≤ length life.room.journal → life.committed ≤ committed_then life records
committed_rises life [] within = le_refl life.committed
committed_rises life (r ∷ rs) within = within

-- no more is committed than the journal has, and these records, at its front, are
record HasCommitted (front : List Record) (room : Room) (committed : ℕ) : Type 0 where
  within : committed ≤ length room.journal
  long : length front ≤ committed
  stands : IsPrefix front room.journal

module _ (front : List Record) where
  abbrev HasThem : Life → Type 0
  HasThem life = HasCommitted front life.room life.committed

  call_commits : (life : Life) (call : Call) → HasThem life → HasThem (life_of life call passes)
  call_commits life call h =
      let records = append_of life call in
      let then = room_then life.room call in
      let longer : IsPrefix life.room.journal then.journal = (records_of life.room call, sym (call_journal life.room call)) in
      record {
        within = le_trans (committed_within life records h.within) (prefix_length life.room.journal then.journal longer);
        long = le_trans h.long (committed_rises life records h.within);
        stands = prefix_through front life.room.journal then.journal h.stands longer;
      }

  crash_commits : (life : Life) (more place : ℕ) → HasThem life → HasThem (life_anew life more place)
  crash_commits life more place h =
      let left = left_by life more in
      let stands : IsPrefix front left = prefix_taken front life.room.journal (life.committed + more) h.stands (let long = h.long in omega arith) in
      record { within = le_refl (length left); long = prefix_length front left stands; stands = stands }

  step_commits : (life : Life) (s : Step) → HasThem life → HasThem (after life s)
  step_commits life (acts call luck) h = life_after_call life call luck (HasCommitted front) h (λ _. call_commits life call h)
  step_commits life (crashes more place) h = crash_commits life more place h

  all_commits : (life : Life) (steps : List Step) → HasThem life → HasThem (after_all life steps)
  all_commits life [] h = h
  all_commits life (s ∷ ss) h = all_commits (after life s) ss (step_commits life s h)

-- ---- along a run of a room made new

pub run_seed : (seed : Seed) (steps : List Step) → (life_after_all seed steps).room.seed ≡ seed
run_seed seed steps = all_seed (new_life seed [] 40) steps

pub run_grows : (seed : Seed) (steps more : List Step) → IsTrue (list_all is_call more) → IsPrefix (journal_after seed steps) (journal_after seed (steps ++ more))
run_grows seed steps more calls =
    subst (λ life. IsPrefix (journal_after seed steps) life.room.journal) (sym (later_life (new_life seed [] 40) steps more)) (all_grows (life_after_all seed steps) more calls)

pub run_within : (seed : Seed) (steps : List Step) → committed_after seed steps ≤ length (journal_after seed steps)
run_within seed steps = (all_commits [] (new_life seed [] 40) steps record { within = le_refl 0; long = le_refl 0; stands = prefix_same [] }).within

-- so many of the first records, which are committed
module _ (seed : Seed) (steps more : List Step) (n : ℕ) (committed : n ≤ committed_after seed steps) where
  abbrev first : List Record
  first = take n (journal_after seed steps)

  first_length : length first ≡ n
  first_length = length-take-le n (journal_after seed steps) (le_trans committed (run_within seed steps))

  later_commits : HasThem first (life_after_all seed (steps ++ more))
  later_commits =
      let life = life_after_all seed steps in
      subst (HasThem first) (sym (later_life (new_life seed [] 40) steps more))
      (all_commits first life more record { within = run_within seed steps; long = le_trans (le_of_eq first_length) committed; stands = prefix_take n life.room.journal })

  committed_stays : IsPrefix first (journal_after seed (steps ++ more))
  committed_stays = later_commits.stands

  committed_later : n ≤ committed_after seed (steps ++ more)
  committed_later = le_trans (le_of_eq (sym first_length)) later_commits.long

-- so many of the first records stay at the front as the life goes on, and in later lives where they are committed
pub first_stay : (seed : Seed) (steps more : List Step) (n : ℕ) → IsTrue (list_all is_call more) ⊎ (n ≤ committed_after seed steps)
    → IsPrefix (take n (journal_after seed steps)) (journal_after seed (steps ++ more))
first_stay seed steps more n (inl calls) =
    let journal = journal_after seed steps in
    prefix_through (take n journal) journal (journal_after seed (steps ++ more)) (prefix_take n journal) (run_grows seed steps more calls)
first_stay seed steps more n (inr committed) = committed_stays seed steps more n committed

pub lives_keep : LivesKeep
lives_keep = record {
  calls = call_keeps;
  crashes_leave = λ life more place. refl;
  seed = run_seed;
  grows = run_grows;
  within = run_within;
  stays = λ seed steps more. committed_stays seed steps more (committed_after seed steps) (le_refl (committed_after seed steps));
  rises = λ seed steps more. committed_later seed steps more (committed_after seed steps) (le_refl (committed_after seed steps));
}
