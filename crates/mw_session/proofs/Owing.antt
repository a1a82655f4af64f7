-- What a session that is open takes of what it is owed, call by call.
use Rattle.std.proofs.Common.{◌≡◌, ◌≢◌, ℕ, ◌+◌, ◌≤◌, ◌==◌, true, false, cond, List, [], ◌∷◌, ◌++◌, Some, None, is_some, map, length, take, drop, refl, sym, ap, subst, ◌∙◌, arith, eq-eqb, ne_eqb, eqb-true, le_refl, true≢false, append-nil}
use Rattle.std.proofs.lemmas.Bool.{cond_both, cond-true, cond-false}
use Rattle.std.proofs.lemmas.List.{length-append, length-take-le, map-append, take-append-drop, take-append-le, take-take, take_all}
use Rattle.std.specs.Option.{unwrap_or}
use Rattle.mw_model.specs.Seed.{Seed}
use Rattle.mw_protocol.specs.Effect.{Effect}
use Rattle.mw_protocol.specs.Lives.{Call, happens, commits, takes, Life, Luck, Reply, opens, done, messages, gone, overrun, stopped, memory, answer, life_after, outcome, reply_of, reply_to, reply_unless, room_then}
use Rattle.mw_laws.specs.Kept.{LivesKeep, Passes, is_done}
use Rattle.mw_protocol.specs.Messages.{ServerPacket, room_info}
use Rattle.mw_protocol.specs.Owed.{owed}
use Rattle.mw_protocol.specs.Players.{room_info_of}
use Rattle.mw_protocol.specs.Rooms.{Message, Session, Room, opened, sent, failed, lost, affected, closed, effect_in, is_full, member_after, new_session, overrun_by, session_after, session_in, taken, taken_all, taken_among, text_of, told, untaken, untaken_of, with_member, with_message, without}
use Rattle.mw_protocol.specs.Standing.{Standing, standing}

some_is : {A : Type 0} (x y : A) → Some x ≡ Some y → x ≡ y
some_is x y e = ap (λ o. unwrap_or o x) e

none_is : {A : Type 0} (x : A) → None ≡ Some x → ⊥
none_is x e = true≢false (ap is_some (sym e))

-- ---- one session

-- it has its number, and has taken just what it had of what it was owed
abbrev Keeps : Session → Session → Type 0
Keeps s t = (t.number ≡ s.number) × (t.taken ≤ length t.owed) × (take t.taken t.owed ≡ take s.taken s.owed)

keeps_self : (s : Session) → s.taken ≤ length s.owed → Keeps s s
keeps_self s h = (refl, h, refl)

told_any : (P : Session → Type 0) (ps : List ServerPacket) (carries : ℕ) (s : Session) → P s → P (overrun_by s) → P (with_message record { packets = ps; carries = carries } s) → P (told ps carries s)
told_any P [] carries s same over more = same
told_any P (p ∷ ps) carries s same over more =
    let m : Message = record { packets = p ∷ ps; carries = carries } in
    let full = is_full (map text_of (untaken s)) in
    cond_both s.overrun s (cond full (overrun_by s) (with_message m s)) P (λ _. same) (λ _. cond_both full (overrun_by s) (with_message m s) P (λ _. over) (λ _. more))

keeps_told : (ps : List ServerPacket) (carries : ℕ) (s : Session) → s.taken ≤ length s.owed → Keeps s (told ps carries s)
keeps_told ps carries s h =
    let m : Message = record { packets = ps; carries = carries } in
    told_any (Keeps s) ps carries s (keeps_self s h)
    (refl, omega (arith, length-take-le s.taken s.owed h), take-take s.taken s.taken s.owed (le_refl s.taken))
    (refl, omega (arith, length-append s.owed (m ∷ [])), take-append-le s.taken s.owed (m ∷ []) h)

keeps_after : (seed : Seed) (before after : Standing) (carries : ℕ) (effect : Effect) (sender : ℕ) (s : Session) → s.taken ≤ length s.owed → Keeps s (session_after seed before after carries effect sender s)
keeps_after seed before after carries effect sender s h =
    let then = member_after effect (s.number == sender) s.member in
    keeps_told (owed seed before after effect (s.number == sender) then) carries (with_member then s) h

told_number : (ps : List ServerPacket) (carries : ℕ) (s : Session) → (told ps carries s).number ≡ s.number
told_number ps carries s = told_any (λ t. t.number ≡ s.number) ps carries s refl refl refl

after_is : (seed : Seed) (before after : Standing) (carries : ℕ) (effect : Effect) (sender : ℕ) (s : Session) → (session_after seed before after carries effect sender s).number ≡ s.number
after_is seed before after carries effect sender s =
    let then = member_after effect (s.number == sender) s.member in
    told_number (owed seed before after effect (s.number == sender) then) carries (with_member then s)

-- ---- among the sessions of a room

found_more : (ss ts : List Session) (n : ℕ) (s : Session) → session_in ss n ≡ Some s → session_in (ss ++ ts) n ≡ Some s
found_more [] ts n s e = absurd (none_is s e)
found_more (u ∷ us) ts n s e =
    elim (u.number == n) as (λ b. cond b (Some u) (session_in us n) ≡ Some s → cond b (Some u) (session_in (us ++ ts) n) ≡ Some s) [ true ↦ λ k. k | false ↦ λ k. found_more us ts n s k ] e

found_after : (f : Session → Session) → ((s : Session) → (f s).number ≡ s.number) → (ss : List Session) (n : ℕ) (s : Session) → session_in ss n ≡ Some s → session_in (map f ss) n ≡ Some (f s)
found_after f same [] n s e = absurd (none_is s e)
found_after f same (u ∷ us) n s e =
    ap (λ m. cond (m == n) (Some (f u)) (session_in (map f us) n)) (same u)
    ∙ elim (u.number == n) as (λ b. cond b (Some u) (session_in us n) ≡ Some s → cond b (Some (f u)) (session_in (map f us) n) ≡ Some (f s)) [
      | true ↦ λ k. ap (λ t. Some (f t)) (some_is u s k)
      | false ↦ λ k. found_after f same us n s k
    ] e

found_without : (m n : ℕ) → m ≢ n → (ss : List Session) → session_in (without m ss) n ≡ session_in ss n
found_without m n apart [] = refl
found_without m n apart (u ∷ us) =
    elim (u.number == m) as (λ b. (u.number == m) ≡ b → session_in (cond b us (u ∷ without m us)) n ≡ session_in (u ∷ us) n) [
      | true ↦ λ is. sym (cond-false (u.number == n) (Some u) (session_in us n) (ne_eqb u.number n (λ same. apart (sym (eqb-true u.number m is) ∙ same))))
      | false ↦ λ _. ap (cond (u.number == n) (Some u)) (found_without m n apart us)
    ] refl

found_took : (m n : ℕ) → m ≢ n → (ss : List Session) → session_in (taken_among m ss) n ≡ session_in ss n
found_took m n apart [] = refl
found_took m n apart (u ∷ us) =
    elim (u.number == m) as (λ b. (u.number == m) ≡ b → session_in (cond b (taken_all u ∷ us) (u ∷ taken_among m us)) n ≡ session_in (u ∷ us) n) [
      | true ↦ λ is. let other = ne_eqb u.number n (λ same. apart (sym (eqb-true u.number m is) ∙ same)) in cond-false (u.number == n) (Some (taken_all u)) (session_in us n) other ∙ sym (cond-false (u.number == n) (Some u) (session_in us n) other)
      | false ↦ λ _. ap (cond (u.number == n) (Some u)) (found_took m n apart us)
    ] refl

found_taken : (ss : List Session) (n : ℕ) (s : Session) → session_in ss n ≡ Some s → session_in (taken_among n ss) n ≡ Some (taken_all s)
found_taken [] n s e = absurd (none_is s e)
found_taken (u ∷ us) n s e =
    elim (u.number == n) as (λ b. (u.number == n) ≡ b → cond b (Some u) (session_in us n) ≡ Some s → session_in (cond b (taken_all u ∷ us) (u ∷ taken_among n us)) n ≡ Some (taken_all s)) [
      | true ↦ λ is k. cond-true (u.number == n) (Some (taken_all u)) (session_in us n) is ∙ ap (λ t. Some (taken_all t)) (some_is u s k)
      | false ↦ λ is k. cond-false (u.number == n) (Some u) (session_in (taken_among n us) n) is ∙ found_taken us n s k
    ] refl e

-- ---- one call

-- the session of a number is open, and these texts are those of the first messages that it was owed
pub record Follows (room : Room) (n : ℕ) (texts : List (List ℕ)) : Type 0 where
  pub s : Session
  pub found : session_in room.sessions n ≡ Some s
  pub sound : s.taken ≤ length s.owed
  pub is : texts ≡ map text_of (take s.taken s.owed)

follows_by : (room later : Room) (n : ℕ) (texts : List (List ℕ)) (f : Follows room n texts) (t : Session) → session_in later.sessions n ≡ Some t → Keeps f.s t → Follows later n texts
follows_by room later n texts f t found k = record { s = t; found = found; sound = k.1; is = f.is ∙ ap (map text_of) (sym k.2) }

follows_effect : (room : Room) (n : ℕ) (texts : List (List ℕ)) (sender : ℕ) (effect : Effect) → Follows room n texts → Follows (affected room sender effect) n texts
follows_effect room n texts sender effect f =
    let journal = room.journal ++ effect.records in
    let g = session_after room.seed (standing room.seed room.journal) (standing room.seed journal) (length journal) effect sender in
    follows_by room (affected room sender effect) n texts f (g f.s) (found_after g (λ s. after_is room.seed (standing room.seed room.journal) (standing room.seed journal) (length journal) effect sender s) room.sessions n f.s f.found)
    (keeps_after room.seed (standing room.seed room.journal) (standing room.seed journal) (length journal) effect sender f.s f.sound)

-- a call that neither takes the session's messages nor ends it
abbrev pub IsApart : ℕ → Call → Type 0
IsApart n (happens (opened time)) = Unit {0}
IsApart n (happens (sent m packet)) = Unit {0}
IsApart n (happens (failed m bad)) = Unit {0}
IsApart n (happens (lost m)) = m ≢ n
IsApart n commits = Unit {0}
IsApart n (takes m) = m ≢ n

pub room_keeps : (room : Room) (n : ℕ) (texts : List (List ℕ)) (call : Call) → IsApart n call → Follows room n texts → Follows (room_then room call) n texts
room_keeps room n texts (happens (opened time)) apart f = record { s = f.s; found = found_more room.sessions (new_session room time ∷ []) n f.s f.found; sound = f.sound; is = f.is }
room_keeps room n texts (happens (sent m packet)) apart f = follows_effect room n texts m (effect_in room (sent m packet)) f
room_keeps room n texts (happens (failed m bad)) apart f = follows_effect room n texts m (effect_in room (failed m bad)) f
room_keeps room n texts (happens (lost m)) apart f =
    follows_effect (closed room m) n texts m (effect_in room (lost m)) (follows_by room (closed room m) n texts f f.s (found_without m n apart room.sessions ∙ f.found) (keeps_self f.s f.sound))
room_keeps room n texts commits apart f = f
room_keeps room n texts (takes m) apart f = follows_by room (taken room m) n texts f f.s (found_took m n apart room.sessions ∙ f.found) (keeps_self f.s f.sound)

pub room_takes : (room : Room) (n : ℕ) (texts : List (List ℕ)) → Follows room n texts → Follows (taken room n) n (texts ++ map text_of (untaken_of (session_in room.sessions n)))
room_takes room n texts f =
    let s = f.s in
    let rest : map text_of (untaken_of (session_in room.sessions n)) ≡ map text_of (drop s.taken s.owed) = ap (λ o. map text_of (untaken_of o)) f.found in
    let whole : take (length s.owed) s.owed ≡ s.owed = take_all (length s.owed) s.owed (le_refl (length s.owed)) in
    record {
      s = taken_all s;
      found = found_taken room.sessions n s f.found;
      sound = le_refl (length s.owed);
      is = ap (λ l. l ++ map text_of (untaken_of (session_in room.sessions n))) f.is ∙ ap (λ l. map text_of (take s.taken s.owed) ++ l) rest
          ∙ sym (map-append text_of (take s.taken s.owed) (drop s.taken s.owed)) ∙ ap (map text_of) (take-append-drop s.taken s.owed ∙ sym whole);
    }

-- ---- the numbers that were given

-- none is greater than this
abbrev pub AtMost : ℕ → List Session → Type 0
AtMost high [] = Unit {0}
AtMost high (s ∷ ss) = (s.number ≤ high) × AtMost high ss

at_most_more : (low high : ℕ) (ss : List Session) → low ≤ high → AtMost low ss → AtMost high ss
at_most_more low high [] le h = tt
at_most_more low high (s ∷ ss) le h = let k = h.0 in (omega arith, at_most_more low high ss le h.1)

at_most_push : (high : ℕ) (ss : List Session) (s : Session) → s.number ≤ high → AtMost high ss → AtMost high (ss ++ s ∷ [])
at_most_push high [] s le h = (le, tt)
at_most_push high (t ∷ ts) s le h = (h.0, at_most_push high ts s le h.1)

at_most_after : (f : Session → Session) → ((s : Session) → (f s).number ≡ s.number) → (high : ℕ) (ss : List Session) → AtMost high ss → AtMost high (map f ss)
at_most_after f same high [] h = tt
at_most_after f same high (s ∷ ss) h = (subst (λ n. n ≤ high) (sym (same s)) h.0, at_most_after f same high ss h.1)

at_most_without : (high m : ℕ) (ss : List Session) → AtMost high ss → AtMost high (without m ss)
at_most_without high m [] h = tt
at_most_without high m (s ∷ ss) h = cond_both (s.number == m) ss (s ∷ without m ss) (AtMost high) (λ _. h.1) (λ _. (h.0, at_most_without high m ss h.1))

at_most_took : (high m : ℕ) (ss : List Session) → AtMost high ss → AtMost high (taken_among m ss)
at_most_took high m [] h = tt
at_most_took high m (s ∷ ss) h = cond_both (s.number == m) (taken_all s ∷ ss) (s ∷ taken_among m ss) (AtMost high) (λ _. h) (λ _. (h.0, at_most_took high m ss h.1))

-- no session that is open has a number that wasn't given
abbrev pub AreGiven : Room → Type 0
AreGiven room = AtMost room.opened room.sessions

given_effect : (room : Room) (sender : ℕ) (effect : Effect) → AreGiven room → AreGiven (affected room sender effect)
given_effect room sender effect h =
    let journal = room.journal ++ effect.records in
    at_most_after (session_after room.seed (standing room.seed room.journal) (standing room.seed journal) (length journal) effect sender)
    (after_is room.seed (standing room.seed room.journal) (standing room.seed journal) (length journal) effect sender) room.opened room.sessions h

new_is : (room : Room) (time : ℕ) → (new_session room time).number ≡ room.opened + 1
new_is room time = told_number (room_info (room_info_of room.seed time) ∷ []) (length room.journal) record { number = room.opened + 1; member = None; owed = []; taken = 0; overrun = false }

room_given : (room : Room) (call : Call) → AreGiven room → AreGiven (room_then room call)
room_given room (happens (opened time)) h =
    let is = new_is room time in at_most_push (room.opened + 1) room.sessions (new_session room time) (omega arith) (at_most_more room.opened (room.opened + 1) room.sessions (omega arith) h)
room_given room (happens (sent m packet)) h = given_effect room m (effect_in room (sent m packet)) h
room_given room (happens (failed m bad)) h = given_effect room m (effect_in room (failed m bad)) h
room_given room (happens (lost m)) h = given_effect (closed room m) m (effect_in room (lost m)) (at_most_without room.opened m room.sessions h)
room_given room commits h = h
room_given room (takes m) h = at_most_took room.opened m room.sessions h

found_last : (high n : ℕ) (ss : List Session) (s : Session) → n ≡ high + 1 → s.number ≡ high + 1 → AtMost high ss → session_in (ss ++ s ∷ []) n ≡ Some s
found_last high n [] s is same h = cond-true (s.number == n) (Some s) None (eq-eqb s.number n (same ∙ sym is))
found_last high n (t ∷ ts) s is same h =
    let low = h.0 in
    cond-false (t.number == n) (Some t) (session_in (ts ++ s ∷ []) n) (ne_eqb t.number n (λ e. omega arith)) ∙ found_last high n ts s is same h.1

room_opens : (room : Room) (time n : ℕ) → n ≡ room.opened + 1 → AreGiven room → Follows (room_then room (happens (opened time))) n []
room_opens room time n is h =
    let new : Session = record { number = room.opened + 1; member = None; owed = []; taken = 0; overrun = false } in
    let k = keeps_told (room_info (room_info_of room.seed time) ∷ []) (length room.journal) new (le_refl 0) in
    record { s = new_session room time; found = found_last room.opened n room.sessions (new_session room time) is (new_is room time) h; sound = k.1; is = ap (map text_of) (sym k.2) }

-- ---- one call of a life

-- the texts of the messages that are answered
abbrev pub texts_in : Reply → List (List ℕ)
texts_in (opens n) = []
texts_in done = []
texts_in (messages texts) = texts
texts_in gone = []
texts_in overrun = []
texts_in (stopped cause) = []
texts_in memory = []

none_in : (r : Reply) → is_done r ≡ false → texts_in r ≡ []
none_in (opens n) h = refl
none_in done h = refl
none_in (messages texts) h = absurd (true≢false h)
none_in gone h = refl
none_in overrun h = refl
none_in (stopped cause) h = refl
none_in memory h = refl

abbrev number_in : ℕ → Reply → ℕ
number_in otherwise (opens n) = n
number_in otherwise done = otherwise
number_in otherwise (messages texts) = otherwise
number_in otherwise gone = otherwise
number_in otherwise overrun = otherwise
number_in otherwise (stopped cause) = otherwise
number_in otherwise memory = otherwise

module _ (lives : LivesKeep) (life : Life) (call : Call) (luck : Luck) where
  -- it passes, and the room is what it makes of it; or the room stays, and no message is answered
  by_call : (P : Room → Type 0) → (Passes life call luck → P (room_then life.room call)) → (is_done (reply_to life call luck) ≡ false → P life.room) → P (life_after life call luck).room
  by_call P then same =
      let keeps = lives.calls life call luck in
      elim (is_done (reply_to life call luck)) as (λ b. is_done (reply_to life call luck) ≡ b → P (life_after life call luck).room) [
        | true ↦ λ is. let p = keeps.done.0 is in subst P (sym (keeps.room p)) (then p)
        | false ↦ λ is. subst P (sym (keeps.otherwise (λ p. true≢false (sym (keeps.done.1 p) ∙ is)))) (same is)
      ] refl

  answered : Passes life call luck → reply_to life call luck ≡ answer life.room call
  answered p = ap (λ o. reply_unless o (reply_of life.room call (outcome life call luck))) p.accepted ∙ ap (reply_of life.room call) p.passed

  pub life_given : AreGiven life.room → AreGiven (life_after life call luck).room
  life_given h = by_call AreGiven (λ _. room_given life.room call h) (λ _. h)

  pub life_keeps : (n : ℕ) (texts : List (List ℕ)) → IsApart n call → Follows life.room n texts → Follows (life_after life call luck).room n texts
  life_keeps n texts apart f = by_call (λ room. Follows room n texts) (λ _. room_keeps life.room n texts call apart f) (λ _. f)

pub life_takes : LivesKeep → (life : Life) (luck : Luck) (n : ℕ) (texts : List (List ℕ)) → Follows life.room n texts → Follows (life_after life (takes n) luck).room n (texts ++ texts_in (reply_to life (takes n) luck))
life_takes lives life luck n texts f =
    by_call lives life (takes n) luck (λ room. Follows room n (texts ++ texts_in (reply_to life (takes n) luck)))
    (λ p. subst (λ more. Follows (taken life.room n) n (texts ++ more)) (sym (ap texts_in (answered lives life (takes n) luck p))) (room_takes life.room n texts f))
    (λ none. subst (λ all. Follows life.room n all) (sym (ap (λ more. texts ++ more) (none_in (reply_to life (takes n) luck) none) ∙ append-nil texts)) f)

pub life_opens : LivesKeep → (life : Life) (luck : Luck) (time n : ℕ) → reply_to life (happens (opened time)) luck ≡ opens n → AreGiven life.room → Follows (life_after life (happens (opened time)) luck).room n []
life_opens lives life luck time n is h =
    by_call lives life (happens (opened time)) luck (λ room. Follows room n [])
    (λ p. room_opens life.room time n (ap (number_in 0) (sym is ∙ answered lives life (happens (opened time)) luck p)) h)
    (λ none. absurd (true≢false (sym (ap is_done is) ∙ none)))
