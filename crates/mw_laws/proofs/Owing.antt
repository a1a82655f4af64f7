-- Each message that a session was owed in a life was owed by an event of it that passed.
use mathlib.Core.List.{IsPrefix}
use Rattle.std.proofs.Common.{◌≡◌, ◌⊎◌, inl, inr, ℕ, ◌+◌, ◌<◌, ◌≤◌, ◌==◌, List, false, ◌∷◌, [], ◌++◌, Option, Some, None, IsTrue, map, length, max, take, drop, zero, suc, refl, sym, ap, subst, ◌∙◌, append_assoc, arith, eq-eqb, ne_eqb, lt_irrefl}
use Rattle.std.proofs.lemmas.Bool.{cond_both, cond-true, cond-false, ltb-true, ltb-false}
use Rattle.std.proofs.lemmas.List.{length-drop}
use Rattle.std.specs.List.{list_all}
use Rattle.mw_model.specs.Seed.{Seed}
use Rattle.mw_protocol.specs.Lives.{Life, Call, happens, commits, takes, Luck, messages, Step, acts, crashes, new_life, pending_of, untaken_in, shows_pending, append_of, committed_then, life_after_all, room_then, reply_to}
use Rattle.mw_protocol.specs.Messages.{ServerPacket, room_info}
use Rattle.mw_protocol.specs.Players.{room_info_of}
use Rattle.mw_protocol.specs.Records.{Record}
use Rattle.mw_protocol.specs.Rooms.{Message, Session, Room, Event, opened, sent, failed, lost, greatest, told, untaken_of, text_of, with_member, session_in, new_session, next}
use Rattle.mw_laws.specs.Kept.{Passes, is_done, is_call, journal_after, committed_after}
use Rattle.mw_laws.specs.Tails.{Passed, Owes, WasOwed, taking, TakenWasOwed}
use Rattle.mw_laws.specs.Told.{staying, newcomers, session_then}
use Rattle.mw_laws.specs.Turns.{member_then, owed_by}
use Rattle.mw_laws.proofs.Each.{Each, each_weaker, each_with, each_map, each_push, each_in, each_taken, found_by}
use Rattle.mw_laws.proofs.Following.{staying_each}
use Rattle.mw_laws.proofs.Keeping.{passed_reply, done_passes, passed_room, passed_committed, run_grows, first_stay}
use Rattle.mw_laws.proofs.Lists.{passed-append}
use Rattle.mw_laws.proofs.Numbers.{IsNumbered, Ascend, above, after_numbered}
use Rattle.mw_laws.proofs.Pairs.{each_append, each_at}
use Rattle.mw_laws.proofs.Prefixes.{prefix_length, prefix_first}
use Rattle.mw_laws.proofs.Runs.{room_after_call, one_more, each_run, each_room}
use Rattle.mw_laws.proofs.Sessions.{told_any, told_number, new_number}
use Rattle.mw_laws.proofs.Telling.{events_tell}

-- ---- lists of messages

module _ {X : Type 0} (P : X → Type 0) where
  pub each_take : (n : ℕ) (xs : List X) → Each P xs → Each P (take n xs)
  each_take zero xs h = tt
  each_take (suc n) [] h = tt
  each_take (suc n) (x ∷ xs) h = (h.0, each_take n xs h.1)

  pub each_drop : (n : ℕ) (xs : List X) → Each P xs → Each P (drop n xs)
  each_drop zero xs h = h
  each_drop (suc n) [] h = tt
  each_drop (suc n) (x ∷ xs) h = each_drop n xs h.1

-- what holds of all that a session was owed, and of a message, holds of all once it is told
pub each_told : (P : Message → Type 0) (packets : List ServerPacket) (length : ℕ) (s : Session)
    → Each P s.owed → P record { packets = packets; carries = length } → Each P (told packets length s).owed
each_told P packets length s h new =
    told_any (λ t. Each P t.owed) packets length s h (each_take P s.taken s.owed h) (each_push P s.owed record { packets = packets; carries = length } h new)

-- ---- sessions by their numbers

-- each number finds its session
pub found_session : (low high : ℕ) (ss : List Session) → Ascend low ss high → Each (λ s. session_in ss s.number ≡ Some s) ss
found_session low high [] h = tt
found_session low high (s ∷ ss) h = (
  cond-true (s.number == s.number) (Some s) (session_in ss s.number) (eq-eqb s.number s.number refl),
  each_with (λ t. s.number < t.number) (λ t. session_in ss t.number ≡ Some t) (λ t. session_in (s ∷ ss) t.number ≡ Some t)
      (λ t more e. cond-false (s.number == t.number) (Some s) (session_in ss t.number) (ne_eqb s.number t.number (λ same. lt_irrefl t.number (subst (λ n. n < t.number) same more))) ∙ e)
      ss (above s.number high ss h.1) (found_session s.number high ss h.1),
)

-- the sessions of each run have numbers of their own
pub run_numbered : (seed : Seed) (steps : List Step) → IsNumbered (life_after_all seed steps).room
run_numbered seed steps = each_room IsNumbered (λ seed journal. (omega arith)) after_numbered (new_life seed [] 40) steps (omega arith)

-- ---- one step more

-- all that a session was owed was owed in the life that the steps come to
abbrev IsOwed : Seed → List Step → Session → Type 0
IsOwed seed steps s = Each (WasOwed seed steps s.number) s.owed

abbrev AreOwed : Seed → List Step → Room → Type 0
AreOwed seed steps room = Each (IsOwed seed steps) room.sessions

module _ (seed : Seed) (front : List Step) (call : Call) (luck : Luck) where
  abbrev pub steps_then : List Step
  steps_then = front ++ acts call luck ∷ []

  -- a further call leaves what passed in the life before it
  abbrev pub passed_still : Passed seed front → Passed seed steps_then
  passed_still p = record {
    before = p.before;
    event = p.event;
    luck = p.luck;
    later = p.later ++ acts call luck ∷ [];
    run = ap (λ steps. steps ++ acts call luck ∷ []) p.run ∙ append_assoc p.before (acts (happens p.event) p.luck ∷ p.later) (acts call luck ∷ []);
    calls = passed-append is_call p.later (acts call luck ∷ []) p.calls refl;
    passes = p.passes;
  }

  still_owed : (number : ℕ) (ms : List Message) → Each (WasOwed seed front number) ms → Each (WasOwed seed steps_then number) ms
  still_owed number ms h = each_weaker (WasOwed seed front number) (WasOwed seed steps_then number) (λ m was. (passed_still was.0, was.1)) ms h

module _ (seed : Seed) (front : List Step) (event : Event) (luck : Luck) (passes : Passes (life_after_all seed front) (happens event) luck) where
  -- the event is one that passed
  abbrev pub just_passed : Passed seed (steps_then seed front (happens event) luck)
  just_passed = record { before = front; event = event; luck = luck; later = []; run = refl; calls = refl; passes = passes }

  told_owed : (s : Session) → session_in (life_after_all seed front).room.sessions s.number ≡ Some s → IsOwed seed front s
      → IsOwed seed (steps_then seed front (happens event) luck) (session_then (life_after_all seed front).room event s)
  told_owed s found h =
      let steps = steps_then seed front (happens event) luck in
      let room = (life_after_all seed front).room in
      let packets = owed_by room event s in
      let after = length (next room event).journal in
      let t = with_member (member_then room event s) s in
      subst (λ number. Each (WasOwed seed steps number) (session_then room event s).owed) (sym (told_number packets after t))
      (each_told (WasOwed seed steps s.number) packets after t (still_owed seed front (happens event) luck s.number s.owed h) (just_passed, inr record { session = s; found = found; is = refl }))

newcomers_owed : (seed : Seed) (front : List Step) (event : Event) (luck : Luck) → Passes (life_after_all seed front) (happens event) luck
    → Each (IsOwed seed (steps_then seed front (happens event) luck)) (newcomers (life_after_all seed front).room event)
newcomers_owed seed front (opened time) luck passes =
    let steps = steps_then seed front (happens (opened time)) luck in
    let room = (life_after_all seed front).room in
    let packets = room_info (room_info_of room.seed time) ∷ [] in
    let first : Session = record { number = room.opened + 1; member = None; owed = []; taken = 0; overrun = false } in (
      subst (λ number. Each (WasOwed seed steps number) (new_session room time).owed) (sym (new_number room time))
          (each_told (WasOwed seed steps (room.opened + 1)) packets (length room.journal) first tt (just_passed seed front (opened time) luck passes, inl (refl, refl))),
      tt,
    )
newcomers_owed seed front (sent sender packet) luck passes = tt
newcomers_owed seed front (failed sender bad) luck passes = tt
newcomers_owed seed front (lost sender) luck passes = tt

event_owed : (seed : Seed) (front : List Step) (event : Event) (luck : Luck) → Passes (life_after_all seed front) (happens event) luck → AreOwed seed front (life_after_all seed front).room
    → AreOwed seed (steps_then seed front (happens event) luck) (next (life_after_all seed front).room event)
event_owed seed front event luck passes h =
    let P = IsOwed seed (steps_then seed front (happens event) luck) in
    let room = (life_after_all seed front).room in
    let Open : Session → Type 0 = λ s. session_in room.sessions s.number ≡ Some s in
    subst (Each P) (sym (events_tell room event))
    (each_append P (map (session_then room event) (staying room event)) (newcomers room event)
    (each_map P (session_then room event) (staying room event)
    (each_with Open (IsOwed seed front) (λ s. P (session_then room event s)) (told_owed seed front event luck passes) (staying room event)
    (staying_each Open room event (found_session 0 room.opened room.sessions (run_numbered seed front)))
    (staying_each (IsOwed seed front) room event h)))
    (newcomers_owed seed front event luck passes))

still_all : (seed : Seed) (front : List Step) (call : Call) (luck : Luck) (ss : List Session) → Each (IsOwed seed front) ss → Each (IsOwed seed (steps_then seed front call luck)) ss
still_all seed front call luck ss h = each_weaker (IsOwed seed front) (IsOwed seed (steps_then seed front call luck)) (λ s was. still_owed seed front call luck s.number s.owed was) ss h

call_owed : (seed : Seed) (front : List Step) (call : Call) (luck : Luck) → AreOwed seed front (life_after_all seed front).room → Passes (life_after_all seed front) call luck
    → AreOwed seed (steps_then seed front call luck) (room_then (life_after_all seed front).room call)
call_owed seed front (happens event) luck h passes = event_owed seed front event luck passes h
call_owed seed front commits luck h passes = still_all seed front commits luck (life_after_all seed front).room.sessions h
call_owed seed front (takes number) luck h passes =
    each_taken (IsOwed seed (steps_then seed front (takes number) luck)) number (λ s was. was) (life_after_all seed front).room.sessions (still_all seed front (takes number) luck (life_after_all seed front).room.sessions h)

step_owed : (seed : Seed) (front : List Step) (s : Step) → AreOwed seed front (life_after_all seed front).room → AreOwed seed (front ++ s ∷ []) (life_after_all seed (front ++ s ∷ [])).room
step_owed seed front (acts call luck) h =
    let life = life_after_all seed front in
    subst (λ then. AreOwed seed (front ++ acts call luck ∷ []) then.room) (sym (one_more seed front (acts call luck)))
    (room_after_call life call luck (AreOwed seed (front ++ acts call luck ∷ [])) (still_all seed front call luck life.room.sessions h) (call_owed seed front call luck h))
step_owed seed front (crashes more place) h = subst (λ then. AreOwed seed (front ++ crashes more place ∷ []) then.room) (sym (one_more seed front (crashes more place))) tt

pub run_owed : (seed : Seed) (steps : List Step) → AreOwed seed steps (life_after_all seed steps).room
run_owed seed steps = each_run (λ front. AreOwed seed front (life_after_all seed front).room) (step_owed seed) tt steps

-- ---- what is taken

-- what holds of all that a session was owed holds of what it hasn't taken
pub untaken_each : (P : Message → Type 0) (found : Option Session) → ((s : Session) → found ≡ Some s → Each P s.owed) → Each P (untaken_of found)
untaken_each P None h = tt
untaken_each P (Some s) h = each_drop P s.taken s.owed (h s refl)

session_owed : (seed : Seed) (steps : List Step) (number : ℕ) (s : Session) → session_in (life_after_all seed steps).room.sessions number ≡ Some s → Each (WasOwed seed steps number) s.owed
session_owed seed steps number s is =
    let sessions = (life_after_all seed steps).room.sessions in
    subst (λ n. Each (WasOwed seed steps n) s.owed) (found_by sessions number s is).0 (each_in (IsOwed seed steps) sessions number s is (run_owed seed steps))

pub taken_owed : (seed : Seed) (steps : List Step) (number : ℕ) → Each (WasOwed seed steps number) (untaken_in (life_after_all seed steps) number)
taken_owed seed steps number = untaken_each (WasOwed seed steps number) (session_in (life_after_all seed steps).room.sessions number) (session_owed seed steps number)

taken_texts : (life : Life) (number : ℕ) (luck : Luck) (texts : List (List ℕ)) → reply_to life (takes number) luck ≡ messages texts → texts ≡ map text_of (untaken_in life number)
taken_texts life number luck texts is =
    let passes = done_passes life (takes number) luck (ap is_done is) in
    let same : messages texts ≡ messages (map text_of (untaken_in life number)) = sym is ∙ passed_reply life (takes number) luck passes in
    cc

-- ---- the journal at an event that passed

-- what an event owes carries the journal's length after it
owes_length : (room : Room) (event : Event) (number : ℕ) (m : Message) → Owes room event number m → m.carries ≡ length (next room event).journal
owes_length room event number m (inr tells) = ap (λ n. n.carries) tells.is
owes_length room (opened time) number m (inl greets) = ap (λ n. n.carries) greets.1
owes_length room (sent sender packet) number m (inl greets) = absurd greets
owes_length room (failed sender bad) number m (inl greets) = absurd greets
owes_length room (lost sender) number m (inl greets) = absurd greets

module _ (seed : Seed) (steps : List Step) (p : Passed seed steps) where
  abbrev pub steps_to : List Step
  steps_to = p.before ++ acts (happens p.event) p.luck ∷ []

  pub point_journal : journal_after seed steps_to ≡ (next (life_after_all seed p.before).room p.event).journal
  point_journal = ap (λ life. life.room.journal) (one_more seed p.before (acts (happens p.event) p.luck)) ∙ ap (λ room. room.journal) (passed_room (life_after_all seed p.before) (happens p.event) p.luck p.passes)

  -- it only grew in the life since
  pub point_grows : IsPrefix (journal_after seed steps_to) (journal_after seed steps)
  point_grows =
      let same : steps_to ++ p.later ≡ steps = append_assoc p.before (acts (happens p.event) p.luck ∷ []) p.later ∙ sym p.run in
      subst (λ run. IsPrefix (journal_after seed steps_to) (journal_after seed run)) same (run_grows seed steps_to p.later p.calls)

  -- and grows as the life goes on, and in later lives where it is committed
  pub point_stays : (more : List Step) → IsTrue (list_all is_call more) ⊎ (length (journal_after seed steps_to) ≤ committed_after seed steps) → IsPrefix (journal_after seed steps_to) (journal_after seed (steps ++ more))
  point_stays more kept =
      let point = journal_after seed steps_to in
      subst (λ front. IsPrefix front (journal_after seed (steps ++ more))) (prefix_first point (journal_after seed steps) point_grows) (first_stay seed steps more (length point) kept)

  -- a message that the event owed carries its length
  pub point_carries : (number : ℕ) (m : Message) → Owes (life_after_all seed p.before).room p.event number m → m.carries ≡ length (journal_after seed steps_to)
  point_carries number m owes = owes_length (life_after_all seed p.before).room p.event number m owes ∙ ap length (sym point_journal)

was_carried : (seed : Seed) (steps : List Step) (number : ℕ) (m : Message) → WasOwed seed steps number m → m.carries ≤ length (journal_after seed steps)
was_carried seed steps number m (p, owes) =
    let point = journal_after seed (steps_to seed steps p) in
    subst (λ n. n ≤ length (journal_after seed steps)) (sym (point_carries seed steps p number m owes)) (prefix_length point (journal_after seed steps) (point_grows seed steps p))

taken_carried : (seed : Seed) (steps : List Step) (number : ℕ) → Each (λ m. m.carries ≤ length (journal_after seed steps)) (untaken_in (life_after_all seed steps) number)
taken_carried seed steps number =
    each_weaker (WasOwed seed steps number) (λ m. m.carries ≤ length (journal_after seed steps)) (was_carried seed steps number) (untaken_in (life_after_all seed steps) number) (taken_owed seed steps number)

-- ---- what is committed once a session has taken its messages

each_greatest : (ms : List Message) → Each (λ m. m.carries ≤ greatest ms) ms
each_greatest [] = tt
each_greatest (m ∷ ms) = (omega arith, each_weaker (λ n. n.carries ≤ greatest ms) (λ n. n.carries ≤ max m.carries (greatest ms)) (λ n le. omega arith) ms (each_greatest ms))

greatest_at_most : (high : ℕ) (ms : List Message) → Each (λ m. m.carries ≤ high) ms → greatest ms ≤ high
greatest_at_most high [] h = omega arith
greatest_at_most high (m ∷ ms) h = let first = h.0 in let rest = greatest_at_most high ms h.1 in omega arith

-- where something is pending, to append all that is commits the whole journal
pending_commits : (life : Life) (records : List Record) → pending_of life ≡ records → life.committed < length life.room.journal → committed_then life records ≡ length life.room.journal
pending_commits life [] none less = absurd (omega (arith, ap length none, length-drop life.committed life.room.journal))
pending_commits life (r ∷ rs) all less = refl

-- what a session that takes appends commits all that the messages carry
pub take_commits : (seed : Seed) (steps : List Step) (number : ℕ)
    → Each (λ m. m.carries ≤ committed_then (life_after_all seed steps) (append_of (life_after_all seed steps) (takes number))) (untaken_in (life_after_all seed steps) number)
take_commits seed steps number =
    let life = life_after_all seed steps in
    let ms = untaken_in life number in
    let AllWithin : ℕ → Type 0 = λ high. Each (λ m. m.carries ≤ high) ms in
    let carried : AllWithin (length life.room.journal) = taken_carried seed steps number in
    let most : greatest ms ≤ length life.room.journal = greatest_at_most (length life.room.journal) ms carried in
    cond_both (shows_pending life number) (pending_of life) [] (λ records. AllWithin (committed_then life records))
    (λ shows. subst AllWithin (sym (pending_commits life (pending_of life) refl (omega (arith, ltb-true life.committed (greatest ms) shows)))) carried)
    (λ hides. each_weaker (λ m. m.carries ≤ greatest ms) (λ m. m.carries ≤ life.committed) (λ m le. omega (arith, ltb-false life.committed (greatest ms) hides)) ms (each_greatest ms))

pub taken_committed : (seed : Seed) (steps : List Step) (number : ℕ) (luck : Luck) → Passes (life_after_all seed steps) (takes number) luck
    → Each (λ m. m.carries ≤ committed_after seed (steps ++ taking number luck ∷ [])) (untaken_in (life_after_all seed steps) number)
taken_committed seed steps number luck passes =
    let life = life_after_all seed steps in
    let same : committed_after seed (steps ++ taking number luck ∷ []) ≡ committed_then life (append_of life (takes number)) =
    ap (λ then. then.committed) (one_more seed steps (taking number luck)) ∙ passed_committed life (takes number) luck passes in
    subst (λ high. Each (λ m. m.carries ≤ high) (untaken_in life number)) (sym same) (take_commits seed steps number)

pub taken_was_owed : TakenWasOwed
taken_was_owed = record {
  owed = λ seed steps number s is. each_at (WasOwed seed steps number) s.owed (session_owed seed steps number s is);
  taken = λ seed steps number. each_at (WasOwed seed steps number) (untaken_in (life_after_all seed steps) number) (taken_owed seed steps number);
  texts = taken_texts;
  carries = λ seed steps number. each_at (λ m. m.carries ≤ length (journal_after seed steps)) (untaken_in (life_after_all seed steps) number) (taken_carried seed steps number);
  committed = λ seed steps number luck passes.
      each_at (λ m. m.carries ≤ committed_after seed (steps ++ taking number luck ∷ [])) (untaken_in (life_after_all seed steps) number) (taken_committed seed steps number luck passes);
}
