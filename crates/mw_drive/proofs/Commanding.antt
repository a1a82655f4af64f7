-- Commands that are done on a kept room.
use Rattle.std.proofs.Common.{◌≡◌, ◌∙◌, ◌^◌, ◌⊎◌, ◌&&◌, inl, inr, ℕ, ◌||◌, Bool, true, false, not, cond, List, [], ◌∷◌, ◌++◌, Option, Some, None, map, refl, sym, ap, subst, append-nil}
use Rattle.std.specs.Option.{is_some}
use Rattle.std.specs.Prelude.{nat_le, unwrap_or}
use Rattle.mw_model.specs.Seed.{Seed}
use Rattle.mw_protocol.specs.Connecting.{Member}
use Rattle.mw_protocol.specs.Lives.{Life, Call, happens, takes as take_call, Reply, overrun as was_overrun, stopped, too_many_calls, Outcome, passes, lacks, stops, fine, append_of, refused_by, refused_to, reply_of, reply_to, reply_unless, outcome}
use Rattle.mw_protocol.specs.Packets.{Inbound}
use Rattle.mw_protocol.specs.Rooms.{Room, Session, Message, lost, text_of, session_in, member_in, untaken_of}
use Rattle.mw_keep.specs.Keeps.{Keeps}
use Rattle.mw_keep.specs.declared.kept.KeptRoom.{KeptRoom}
use Rattle.mw_drive.specs.Calls.{IsDone, AreDone, HaveStopped, IsPerformed}
use Rattle.mw_script.specs.Commands.{Command, opens, sends, takes, loses, commits, crashes}
use Rattle.mw_drive.specs.Drive.{Put, gone, overrun, message, text_put, message_line, message_lines, gone_line, overrun_line, is_absent, is_absent_in, named, calls, calls_of, call_for, is_overrun, is_stopped, texts_in, life_through, meet_overrun, stop, puts, told_of, taken_by, taken_from, after, is_crash}
use Rattle.mw_drive.specs.Left.{IsGoing}
use Rattle.mw_drive.specs.declared.error.DriveError.{DriveError}
use Rattle.mw_drive.specs.declared.error.DriveError.TheVariants.{Memory}
use Rattle.mw_drive.proofs.Calling.{call_step, through_steps}
use Rattle.mw_drive.proofs.Taking.{never_lacks}

-- ---- texts

pub taken_lines : (session : ℕ) (member : Option Member) (ms : List Message) → text_put (map (message session member) ms) ≡ message_lines session (map text_of ms)
taken_lines session member [] = refl
taken_lines session member (m ∷ ms) = ap (λ (t : List ℕ). message_line session (text_of m) ++ t) (taken_lines session member ms)

-- ---- sessions that are open or not

-- what a command comes to whose session isn't open
module _ (life : Life) (c : Command) (session : ℕ) (names : named c ≡ Some session) where
  absent_is : is_some (session_in life.room.sessions session) ≡ false → is_absent life c ≡ true
  absent_is h = ap (is_absent_in life.room) names ∙ ap not h

  present_is : is_some (session_in life.room.sessions session) ≡ true → is_absent life c ≡ false
  present_is h = ap (is_absent_in life.room) names ∙ ap not h

  told_is : (put : ℕ → Put) → told_of put (named c) ≡ put session ∷ []
  told_is put = ap (told_of put) names

  pub absent_puts : is_some (session_in life.room.sessions session) ≡ false → puts life c ≡ gone session ∷ []
  absent_puts h = ap (λ b. cond b (told_of gone (named c)) (cond (meet_overrun life (calls_of c)) (told_of overrun (named c)) (taken_from life.room c))) (absent_is h) ∙ told_is gone

  pub absent_calls : is_some (session_in life.room.sessions session) ≡ false → calls life c ≡ []
  absent_calls h = ap (λ b. cond b [] (calls_of c)) (absent_is h)

  pub present_calls : is_some (session_in life.room.sessions session) ≡ true → calls life c ≡ calls_of c
  present_calls h = ap (λ b. cond b [] (calls_of c)) (present_is h)

  pub present_puts : is_some (session_in life.room.sessions session) ≡ true
      → puts life c ≡ cond (meet_overrun life (calls_of c)) (overrun session ∷ []) (taken_from life.room c)
  present_puts h =
      ap (λ b. cond b (told_of gone (named c)) (cond (meet_overrun life (calls_of c)) (told_of overrun (named c)) (taken_from life.room c))) (present_is h)
      ∙ ap (λ ps. cond (meet_overrun life (calls_of c)) ps (taken_from life.room c)) (told_is overrun)

-- all but a crash make their calls
pub after_is : (life : Life) (c : Command) → is_crash c ≡ false → after life c ≡ life_through life (calls life c)
after_is life (opens time) h = refl
after_is life (sends session is) h = refl
after_is life (takes session) h = refl
after_is life (loses session) h = refl
after_is life commits h = refl
after_is life crashes h = cc

module _ {D : Type 0} (may_leave : D → List ℕ → Type 0) (faults : D → ℕ) (digest : List ℕ) (seed : Seed) (life : Life) (c : Command) (plain : is_crash c ≡ false) where
  -- a command whose calls were done
  pub performed_by : (cs : List Call) (met : Bool) (text : List ℕ) (k : KeptRoom D) → calls life c ≡ cs → AreDone may_leave digest seed life cs met k → text ≡ text_put (puts life c)
      → IsPerformed may_leave digest seed life c text k
  performed_by cs met text k is are is_text =
      let then : life_through life cs ≡ after life c = ap (life_through life) (sym is) ∙ sym (after_is life c plain) in
      record {
        is_text = is_text;
        whole = ap (stop life) is ∙ are.goes;
        keeps = subst (λ l. Keeps may_leave digest l k) then are.keeps;
        going = subst (λ l. IsGoing seed l k) then are.going;
      }

  -- one that makes no call
  pub performed_none : (text : List ℕ) (k : KeptRoom D) → Keeps may_leave digest life k → IsGoing seed life k → calls life c ≡ [] → text ≡ text_put (puts life c)
      → IsPerformed may_leave digest seed life c text k
  performed_none text k keeps going is is_text =
      performed_by [] false text k is record { meets = refl; goes = refl; keeps = keeps; going = going } is_text

  -- its calls stopped
  pub stopped_by : (cs : List Call) (before k : KeptRoom D) (error : DriveError) → calls life c ≡ cs → HaveStopped may_leave faults digest life cs before error k
      → HaveStopped may_leave faults digest life (calls life c) before error k
  stopped_by cs before k error is h = subst (λ l. HaveStopped may_leave faults digest life l before error k) (sym is) h

  -- memory ran out once its calls were done
  pub lacks_memory : (cs : List Call) (life_then : Life) (before k : KeptRoom D) → life_then ≡ life_through life cs → Keeps may_leave digest life_then k
      → HaveStopped may_leave faults digest life (calls life c) before Memory k
  lacks_memory cs life_then before k is keeps = record {
    steps = map call_step cs;
    keeps = subst (λ l. Keeps may_leave digest l k) (is ∙ through_steps cs life) keeps;
    full = λ e. cc;
    fault = λ e. cc;
  }

-- one call
pub one_done : {D : Type 0} (may_leave : D → List ℕ → Type 0) (digest : List ℕ) (seed : Seed) (life : Life) (call : Call) (reply : Reply) (k : KeptRoom D)
    → IsDone may_leave digest seed life call reply k → AreDone may_leave digest seed life (call ∷ []) (meet_overrun life (call ∷ [])) k
one_done may_leave digest seed life call reply k d = record {
  meets = refl;
  goes = ap (λ b. b || false) d.goes;
  keeps = d.keeps;
  going = d.going;
}

-- ---- what one call of a command puts

-- nothing is put of a command that is told of no session
pub no_put : (b : Bool) → text_put (cond b [] []) ≡ []
no_put true = refl
no_put false = refl

-- whether a session that is open met that it was owed more than it may keep
pub met_put : (session : ℕ) (b : Bool) (text : List ℕ) → (b ≡ true → text ≡ overrun_line session) → (b ≡ false → text ≡ []) → text ≡ text_put (cond b (overrun session ∷ []) [])
met_put session true text is none = is refl ∙ sym (append-nil (overrun_line session))
met_put session false text is none = none refl

gone_put : (session : ℕ) → gone_line session ≡ text_put (gone session ∷ [])
gone_put session = sym (append-nil (gone_line session))

-- that a session isn't open
pub absent_text : (life : Life) (c : Command) (session : ℕ) (text : List ℕ) → named c ≡ Some session → is_some (session_in life.room.sessions session) ≡ false → text ≡ gone_line session
    → text ≡ text_put (puts life c)
absent_text life c session text names absent is = is ∙ gone_put session ∙ ap text_put (sym (absent_puts life c session names absent))

-- a session that ends isn't told that it was owed too much
ended_by : (many over : Bool) (room : Room) (number : ℕ) (o : Outcome)
    → is_overrun (reply_unless (cond many (Some (stopped (too_many_calls (2 ^ 63)))) (cond (over && false) (Some was_overrun) None)) (reply_of room (happens (lost number)) o)) ≡ false
ended_by true over room number o = refl
ended_by false true room number passes = refl
ended_by false true room number lacks = refl
ended_by false true room number (stops cause) = refl
ended_by false false room number passes = refl
ended_by false false room number lacks = refl
ended_by false false room number (stops cause) = refl

-- what a session that takes is answered, where the room goes on
taken_by_cases : (many over : Bool) (room : Room) (session : ℕ) (o : Outcome) → (o ≡ lacks → ⊥) → (r : Reply)
    → r ≡ reply_unless (cond many (Some (stopped (too_many_calls (2 ^ 63)))) (cond (over && true) (Some was_overrun) None)) (reply_of room (take_call session) o) → is_stopped r ≡ false
    → ((texts_in r ≡ Some (map text_of (untaken_of (session_in room.sessions session)))) × (is_overrun r ≡ false)) ⊎ ((texts_in r ≡ None) × (is_overrun r ≡ true))
taken_by_cases true over room session o never r is goes = let clash : is_stopped r ≡ true = ap is_stopped is in cc
taken_by_cases false true room session o never r is goes = inr (ap texts_in is, ap is_overrun is)
taken_by_cases false false room session passes never r is goes = inl (ap texts_in is, ap is_overrun is)
taken_by_cases false false room session lacks never r is goes = absurd (never refl)
taken_by_cases false false room session (stops cause) never r is goes = let clash : is_stopped r ≡ true = ap is_stopped is in cc

module _ (life : Life) (session : ℕ) (s : Session) (found : session_in life.room.sessions session ≡ Some s) (going : life.stopped ≡ None) where
  refusal_is : (ending : Bool) → refused_by life.stopped life.calls (refused_to ending (session_in life.room.sessions session))
      ≡ cond (nat_le (2 ^ 63) life.calls) (Some (stopped (too_many_calls (2 ^ 63)))) (cond (s.overrun && not ending) (Some was_overrun) None)
  refusal_is ending = ap (λ o. refused_by o life.calls (refused_to ending (session_in life.room.sessions session))) going
      ∙ ap (λ o. refused_by None life.calls (refused_to ending o)) found

  pub lost_not_overrun : is_overrun (reply_to life (happens (lost session)) fine) ≡ false
  lost_not_overrun = ap (λ o. is_overrun (reply_unless o (reply_of life.room (happens (lost session)) (outcome life (happens (lost session)) fine)))) (refusal_is true)
      ∙ ended_by (nat_le (2 ^ 63) life.calls) s.overrun life.room session (outcome life (happens (lost session)) fine)

  pub take_reply : is_stopped (reply_to life (take_call session) fine) ≡ false
      → ((texts_in (reply_to life (take_call session) fine) ≡ Some (map text_of (untaken_of (session_in life.room.sessions session)))) × (is_overrun (reply_to life (take_call session) fine) ≡ false))
      ⊎ ((texts_in (reply_to life (take_call session) fine) ≡ None) × (is_overrun (reply_to life (take_call session) fine) ≡ true))
  take_reply goes = taken_by_cases (nat_le (2 ^ 63) life.calls) s.overrun life.room session (outcome life (take_call session) fine) (never_lacks life.place (append_of life (take_call session))) (reply_to life (take_call session) fine)
      (ap (λ o. reply_unless o (reply_of life.room (take_call session) (outcome life (take_call session) fine))) (refusal_is false)) goes

some_session : (o : Option Session) → is_some o ≡ true → (s : Session) × (o ≡ Some s)
some_session None h = cc
some_session (Some s) h = (s, refl)

pub session_there : (life : Life) (session : ℕ) → is_some (session_in life.room.sessions session) ≡ true → (s : Session) × (session_in life.room.sessions session ≡ Some s)
session_there life session h = some_session (session_in life.room.sessions session) h

-- the text of what a session that is open takes
module _ (life : Life) (session : ℕ) (there : is_some (session_in life.room.sessions session) ≡ true) (going : life.stopped ≡ None)
    (goes : is_stopped (reply_to life (take_call session) fine) ≡ false) (reply : Reply) (is : reply ≡ reply_to life (take_call session) fine)
  where
    taken_puts : (b : Bool) → is_overrun (reply_to life (take_call session) fine) ≡ b → puts life (takes session) ≡ cond b (overrun session ∷ []) (taken_by life.room session)
    taken_puts b h = present_puts life (takes session) session refl there ∙ ap (λ x. cond (x || false) (overrun session ∷ []) (taken_by life.room session)) h ∙ or_cond b
      where
        or_cond : (x : Bool) → cond (x || false) (overrun session ∷ []) (taken_by life.room session) ≡ cond x (overrun session ∷ []) (taken_by life.room session)
        or_cond true = refl
        or_cond false = refl

    some_same : (a b : List (List ℕ)) → (let x : Option (List (List ℕ)) = Some a in x) ≡ Some b → a ≡ b
    some_same a b e = ap (λ o. unwrap_or o a) e

    pub taken_texts : (texts : List (List ℕ)) (text : List ℕ) → texts_in reply ≡ Some texts → text ≡ message_lines session texts → text ≡ text_put (puts life (takes session))
    taken_texts texts text given text_is = elim (take_reply life session (session_there life session there).0 (session_there life session there).1 going goes) [
      | inl h ↦ text_is ∙ ap (message_lines session) (some_same texts _ (sym given ∙ ap texts_in is ∙ h.0))
          ∙ sym (taken_lines session (member_in life.room.sessions session) (untaken_of (session_in life.room.sessions session)))
          ∙ ap text_put (sym (taken_puts false h.1))
      | inr h ↦ let clash : (let x : Option (List (List ℕ)) = Some texts in x) ≡ None = sym given ∙ ap texts_in is ∙ h.0 in absurd cc
    ]

    pub taken_overrun : (text : List ℕ) → texts_in reply ≡ None → text ≡ overrun_line session → text ≡ text_put (puts life (takes session))
    taken_overrun text none text_is = elim (take_reply life session (session_there life session there).0 (session_there life session there).1 going goes) [
      | inl h ↦ let clash : (let x : Option (List (List ℕ)) = Some (map text_of (untaken_of (session_in life.room.sessions session))) in x) ≡ None = sym h.0 ∙ ap texts_in (sym is) ∙ none in absurd cc
      | inr h ↦ text_is ∙ sym (append-nil (overrun_line session)) ∙ ap text_put (sym (taken_puts true h.1))
    ]

-- nothing is put of a session that ends
pub ended_puts : (life : Life) (session : ℕ) → is_some (session_in life.room.sessions session) ≡ true → life.stopped ≡ None → text_put (puts life (loses session)) ≡ []
ended_puts life session there going =
    ap text_put (present_puts life (loses session) session refl there)
    ∙ ap (λ b. text_put (cond (b || false) (overrun session ∷ []) [])) (lost_not_overrun life session (session_there life session there).0 (session_there life session there).1 going)

-- what is put of a session's message, where the session is open
pub sent_text : (life : Life) (session : ℕ) (is : List Inbound) (met : Bool) (text : List ℕ) → is_some (session_in life.room.sessions session) ≡ true → met ≡ meet_overrun life (map (call_for session) is)
    → (met ≡ true → text ≡ overrun_line session) → (met ≡ false → text ≡ []) → text ≡ text_put (puts life (sends session is))
sent_text life session is met text there meets over none =
    met_put session met text over none
    ∙ ap (λ b. text_put (cond b (overrun session ∷ []) [])) meets
    ∙ ap text_put (sym (present_puts life (sends session is) session refl there))
