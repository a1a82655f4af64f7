-- A call that is answered as done goes as where memory and the disk don't fail.
use Rattle.std.proofs.Common.{◌≡◌, ◌∙◌, ◌^◌, ◌||◌, ℕ, List, [], ◌∷◌, Bool, true, false, cond, Option, Some, None, refl, sym, ap, subst}
use Rattle.std.specs.Prelude.{nat_le, nat_lt}
use Rattle.mw_model.specs.Seed.{Seed}
use Rattle.mw_protocol.specs.Lives.{Life, Call, happens, commits, takes, Luck, fine, lacking, faulty, Outcome, passes, lacks, stops, disk_fault, journal_full, too_many_calls, Reply, opens, done, messages, gone, overrun, stopped, memory, append, append_of, length_with, planned, outcome, answer, reply_of, reply_to, reply_unless, refusal, refused_by, refused_in, refused_to, ends, named_by, room_then, life_after, life_of, life_unless, acts}
use Rattle.mw_protocol.specs.Records.{Record}
use Rattle.mw_protocol.specs.Rooms.{Room, Session, opened, sent, failed, lost, session_in}
use Rattle.mw_keep.specs.Acts.{Acts, is_answered}
use Rattle.mw_keep.specs.Keeps.{Keeps}
use Rattle.mw_keep.specs.declared.kept.KeptRoom.{KeptRoom}
use Rattle.mw_drive.specs.Calls.{failure, error_for, IsDone, HaveStopped}
use Rattle.mw_drive.specs.Drive.{is_stopped}
use Rattle.mw_drive.specs.Left.{IsGoing}
use Rattle.mw_drive.specs.declared.error.DriveError.{DriveError}
use Rattle.mw_drive.specs.declared.error.DriveError.TheVariants.{Fault, Memory, Full}

-- ---- outcomes

abbrev fails : Outcome → Option DriveError
fails passes = None
fails lacks = Some Memory
fails (stops cause) = Some (error_for cause)

abbrev halts : Outcome → Bool
halts passes = false
halts lacks = false
halts (stops cause) = true

-- of an append whose file passes the limit or doesn't
fault_by : (b : Bool) (len : ℕ) → fails (cond b (stops (journal_full len)) (stops disk_fault)) ≡ None → ⊥
fault_by true len h = cc
fault_by false len h = cc

full_by : (b : Bool) (len : ℕ) → fails (cond b (stops (journal_full len)) (stops disk_fault)) ≡ Some Full → halts (cond b (stops (journal_full len)) passes) ≡ true
full_by true len h = refl
full_by false len h = cc

fine_full : (b : Bool) (len : ℕ) → fails (cond b (stops (journal_full len)) passes) ≡ Some Full → halts (cond b (stops (journal_full len)) passes) ≡ true
fine_full true len h = refl
fine_full false len h = cc

fine_fault : (b : Bool) (len : ℕ) → fails (cond b (stops (journal_full len)) passes) ≡ Some Fault → ⊥
fine_fault true len h = cc
fine_fault false len h = cc

append_lucky : (place : ℕ) (luck : Luck) (rs : List Record) → fails (append place luck rs) ≡ None → append place luck rs ≡ append place fine rs
append_lucky place luck [] h = refl
append_lucky place fine (r ∷ rs) h = refl
append_lucky place lacking (r ∷ rs) h = cc
append_lucky place faulty (r ∷ rs) h = absurd (fault_by (nat_lt (2 ^ 30) (length_with place (r ∷ rs))) (length_with place (r ∷ rs)) h)

append_full : (place : ℕ) (luck : Luck) (rs : List Record) → fails (append place luck rs) ≡ Some Full → halts (append place fine rs) ≡ true
append_full place luck [] h = cc
append_full place fine (r ∷ rs) h = fine_full (nat_lt (2 ^ 30) (length_with place (r ∷ rs))) (length_with place (r ∷ rs)) h
append_full place lacking (r ∷ rs) h = cc
append_full place faulty (r ∷ rs) h = full_by (nat_lt (2 ^ 30) (length_with place (r ∷ rs))) (length_with place (r ∷ rs)) h

append_fault : (place : ℕ) (luck : Luck) (rs : List Record) → fails (append place luck rs) ≡ Some Fault → luck ≡ faulty
append_fault place luck [] h = cc
append_fault place fine (r ∷ rs) h = absurd (fine_fault (nat_lt (2 ^ 30) (length_with place (r ∷ rs))) (length_with place (r ∷ rs)) h)
append_fault place lacking (r ∷ rs) h = cc
append_fault place faulty (r ∷ rs) h = refl

-- an event asks for memory alone
planned_lucky : (luck : Luck) → fails (planned luck) ≡ None → planned luck ≡ planned fine
planned_lucky fine h = refl
planned_lucky lacking h = cc
planned_lucky faulty h = refl

planned_full : (luck : Luck) → fails (planned luck) ≡ Some Full → ⊥
planned_full fine h = cc
planned_full lacking h = cc
planned_full faulty h = cc

planned_fault : (luck : Luck) → fails (planned luck) ≡ Some Fault → ⊥
planned_fault fine h = cc
planned_fault lacking h = cc
planned_fault faulty h = cc

lucky : (life : Life) (call : Call) (luck : Luck) → fails (outcome life call luck) ≡ None → outcome life call luck ≡ outcome life call fine
lucky life (happens event) luck h = planned_lucky luck h
lucky life commits luck h = append_lucky life.place luck (append_of life commits) h
lucky life (takes number) luck h = append_lucky life.place luck (append_of life (takes number)) h

full : (life : Life) (call : Call) (luck : Luck) → fails (outcome life call luck) ≡ Some Full → halts (outcome life call fine) ≡ true
full life (happens event) luck h = absurd (planned_full luck h)
full life commits luck h = append_full life.place luck (append_of life commits) h
full life (takes number) luck h = append_full life.place luck (append_of life (takes number)) h

fault : (life : Life) (call : Call) (luck : Luck) → fails (outcome life call luck) ≡ Some Fault → luck ≡ faulty
fault life (happens event) luck h = absurd (planned_fault luck h)
fault life commits luck h = append_fault life.place luck (append_of life commits) h
fault life (takes number) luck h = append_fault life.place luck (append_of life (takes number)) h

-- ---- replies

answer_goes : (room : Room) (call : Call) → failure (answer room call) ≡ None
answer_goes room (happens (opened time)) = refl
answer_goes room (happens (sent number packet)) = refl
answer_goes room (happens (failed number bad)) = refl
answer_goes room (happens (lost number)) = refl
answer_goes room commits = refl
answer_goes room (takes number) = refl

goes : (r : Reply) → failure r ≡ None → is_stopped r ≡ false
goes (opens session) h = refl
goes done h = refl
goes (messages texts) h = refl
goes gone h = refl
goes overrun h = refl
goes (stopped cause) h = cc
goes memory h = refl

reply_fails : (room : Room) (call : Call) (o : Outcome) → failure (reply_of room call o) ≡ fails o
reply_fails room call passes = answer_goes room call
reply_fails room call lacks = refl
reply_fails room call (stops cause) = refl

reply_halts : (room : Room) (call : Call) (o : Outcome) → halts o ≡ true → is_stopped (reply_of room call o) ≡ true
reply_halts room call passes h = cc
reply_halts room call lacks h = cc
reply_halts room call (stops cause) h = refl

stopped_full : (r : Reply) → failure r ≡ Some Full → is_stopped r ≡ true
stopped_full (opens session) h = cc
stopped_full done h = cc
stopped_full (messages texts) h = cc
stopped_full gone h = cc
stopped_full overrun h = cc
stopped_full (stopped cause) h = refl
stopped_full memory h = cc

passes_by : (o : Outcome) → fails o ≡ None → o ≡ passes
passes_by passes h = refl
passes_by lacks h = cc
passes_by (stops cause) h = cc

-- a call that doesn't fail is answered
answered : (r : Reply) → failure r ≡ None → is_answered r ≡ true
answered (opens session) h = refl
answered done h = refl
answered (messages texts) h = refl
answered gone h = refl
answered overrun h = refl
answered (stopped cause) h = cc
answered memory h = cc

-- ---- refusals

-- a refusal of a room that hasn't stopped is no fault
abbrev NoFault : Option Reply → Type 0
NoFault None = Unit {0}
NoFault (Some r) = failure r ≡ Some Fault → ⊥

no_fault_overrun : (b : Bool) → NoFault (cond b (Some overrun) None)
no_fault_overrun true = λ h. cc
no_fault_overrun false = tt

no_fault_to : (ending : Bool) (s : Option Session) → NoFault (refused_to ending s)
no_fault_to ending None = λ h. cc
no_fault_to ending (Some s) = no_fault_overrun _

no_fault_in : (room : Room) (ending : Bool) (named : Option ℕ) → NoFault (refused_in room ending named)
no_fault_in room ending None = tt
no_fault_in room ending (Some number) = no_fault_to ending (session_in room.sessions number)

no_fault_many : (b : Bool) (otherwise : Option Reply) → NoFault otherwise → NoFault (cond b (Some (stopped (too_many_calls (2 ^ 63)))) otherwise)
no_fault_many true otherwise h = λ e. cc
no_fault_many false otherwise h = h

no_fault : (life : Life) (call : Call) → life.stopped ≡ None → NoFault (refusal life call)
no_fault life call going =
    subst (λ s. NoFault (refused_by s life.calls (refused_in life.room (ends call) (named_by call)))) (sym going)
    (no_fault_many (nat_le (2 ^ 63) life.calls) (refused_in life.room (ends call) (named_by call)) (no_fault_in life.room (ends call) (named_by call)))

-- ---- a call

-- it keeps the room's seed
call_seed : (room : Room) (call : Call) → (room_then room call).seed ≡ room.seed
call_seed room (happens (opened time)) = refl
call_seed room (happens (sent number packet)) = refl
call_seed room (happens (failed number bad)) = refl
call_seed room (happens (lost number)) = refl
call_seed room commits = refl
call_seed room (takes number) = refl

module _ (life : Life) (call : Call) where
  abbrev reply_with : Option Reply → Outcome → Reply
  reply_with refused o = reply_unless refused (reply_of life.room call o)

  abbrev life_with : Option Reply → Outcome → Life
  life_with refused o = life_unless refused life (life_of life call o)

  same_by : (refused : Option Reply) (o then : Outcome) → (fails o ≡ None → o ≡ then) → failure (reply_with refused o) ≡ None
      → (reply_with refused o ≡ reply_with refused then) × (life_with refused o ≡ life_with refused then)
  same_by None o then h is =
      let eq = h (sym (reply_fails life.room call o) ∙ is) in
      (ap (reply_of life.room call) eq, ap (life_of life call) eq)
  same_by (Some r) o then h is = (refl, refl)

  full_with : (refused : Option Reply) (o then : Outcome) → (fails o ≡ Some Full → halts then ≡ true) → failure (reply_with refused o) ≡ Some Full → is_stopped (reply_with refused then) ≡ true
  full_with None o then h is = reply_halts life.room call then (h (sym (reply_fails life.room call o) ∙ is))
  full_with (Some r) o then h is = stopped_full r is

  fault_with : (refused : Option Reply) (o : Outcome) (luck : Luck) → NoFault refused → (fails o ≡ Some Fault → luck ≡ faulty) → failure (reply_with refused o) ≡ Some Fault → luck ≡ faulty
  fault_with None o luck none h is = h (sym (reply_fails life.room call o) ∙ is)
  fault_with (Some r) o luck none h is = absurd (none is)

  seed_with : (seed : Seed) (refused : Option Reply) (o : Outcome) → life.room.seed ≡ seed → (life_with refused o).room.seed ≡ seed
  seed_with seed (Some r) o is = is
  seed_with seed None passes is = call_seed life.room call ∙ is
  seed_with seed None lacks is = is
  seed_with seed None (stops cause) is = is

  goes_with : (refused : Option Reply) (o : Outcome) → life.stopped ≡ None → failure (reply_with refused o) ≡ None → (life_with refused o).stopped ≡ None
  goes_with (Some r) o going is = going
  goes_with None o going is =
      subst (λ p. (life_of life call p).stopped ≡ None) (sym (passes_by o (sym (reply_fails life.room call o) ∙ is))) going

or_none : (b : Bool) → b ≡ true → (b || false) ≡ true
or_none true h = refl
or_none false h = cc

module _ {D : Type 0} (may_leave : D → List ℕ → Type 0) (moment : D → ℕ) (left_since : D → ℕ → List ℕ → Type 0) (faults : D → ℕ) (digest : List ℕ) (seed : Seed)
    (life : Life) (call : Call) (before : KeptRoom D) (reply : Reply) (after : KeptRoom D)
    (a : Acts may_leave moment left_since faults digest life call before reply after) (going : IsGoing seed life before) where
  same : failure reply ≡ None → (reply_to life call a.luck ≡ reply_to life call fine) × (life_after life call a.luck ≡ life_after life call fine)
  same h = same_by life call (refusal life call) (outcome life call a.luck) (outcome life call fine) (lucky life call a.luck) (ap failure (sym a.replies) ∙ h)

  fine_goes : failure reply ≡ None → failure (reply_to life call fine) ≡ None
  fine_goes h = ap failure (sym (same h).0) ∙ ap failure (sym a.replies) ∙ h

  pub call_done : failure reply ≡ None → IsDone may_leave digest seed life call reply after
  call_done h = record {
    replies = a.replies ∙ (same h).0;
    goes = goes (reply_to life call fine) (fine_goes h);
    keeps = subst (λ l. Keeps may_leave digest l after) (same h).1 a.keeps;
    going = record {
      seed_is = seed_with life call seed (refusal life call) (outcome life call fine) going.seed_is;
      unstopped = goes_with life call (refusal life call) (outcome life call fine) going.unstopped (fine_goes h);
      whole = a.whole (answered reply h) going.whole;
    };
  }

  pub call_stopped : (error : DriveError) → failure reply ≡ Some error → HaveStopped may_leave faults digest life (call ∷ []) before error after
  call_stopped error h = record {
    steps = acts call a.luck ∷ [];
    keeps = a.keeps;
    full = λ is. or_none (is_stopped (reply_to life call fine))
        (full_with life call (refusal life call) (outcome life call a.luck) (outcome life call fine) (full life call a.luck) (ap failure (sym a.replies) ∙ h ∙ ap Some is));
    fault = λ is. a.fault (fault_with life call (refusal life call) (outcome life call a.luck) a.luck (no_fault life call going.unstopped) (fault life call a.luck) (ap failure (sym a.replies) ∙ h ∙ ap Some is));
  }
