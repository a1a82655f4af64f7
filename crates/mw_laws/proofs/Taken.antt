-- What a session has taken is committed.
use Rattle.std.proofs.Common.{◌≡◌, ℕ, ◌+◌, ◌≤◌, List, false, ◌∷◌, [], ◌++◌, Some, None, map, length, take, drop, sym, subst, ◌∙◌, arith, le_refl, le_trans}
use Rattle.std.proofs.lemmas.List.{drop-take, length-append, length-take-le, take-append-drop, take-append-le, take-take, take_all}
use Rattle.mw_model.specs.Seed.{Seed}
use Rattle.mw_protocol.specs.Lives.{Call, happens, commits, takes, Step, acts, crashes, pending_of, append_of, room_then, committed_then, life_after_all}
use Rattle.mw_protocol.specs.Messages.{ServerPacket, room_info}
use Rattle.mw_protocol.specs.Players.{room_info_of}
use Rattle.mw_protocol.specs.Rooms.{Message, Session, Room, Event, opened, sent, failed, lost, untaken_of, told, with_member, session_in, taken_all, next}
use Rattle.mw_laws.specs.Kept.{committed_after}
use Rattle.mw_laws.specs.Told.{staying, newcomers, session_then}
use Rattle.mw_laws.specs.Turns.{member_then, owed_by}
use Rattle.mw_laws.proofs.Each.{Each, each_weaker, each_with, each_map, each_in, each_took}
use Rattle.mw_laws.proofs.Following.{staying_each}
use Rattle.mw_laws.proofs.Keeping.{committed_rises, run_within}
use Rattle.mw_laws.proofs.Owing.{each_take, each_drop, found_session, run_numbered, take_commits}
use Rattle.mw_laws.proofs.Pairs.{each_append}
use Rattle.mw_laws.proofs.Runs.{life_after_call, one_more, each_run}
use Rattle.mw_laws.proofs.Sessions.{told_any}
use Rattle.mw_laws.proofs.Telling.{events_tell}

-- no more are taken than owed, and none of these carries more
abbrev TakenWithin : ℕ → Session → Type 0
TakenWithin high s = (s.taken ≤ length s.owed) × Each (λ m. m.carries ≤ high) (take s.taken s.owed)

module _ (high : ℕ) where
  abbrev Low : List Message → Type 0
  Low ms = Each (λ m. m.carries ≤ high) ms

  -- ---- one event

  -- what a session is told it hasn't taken
  told_taken : (packets : List ServerPacket) (carries : ℕ) (s : Session) → TakenWithin high s → TakenWithin high (told packets carries s)
  told_taken packets carries s h =
      let m : Message = record { packets = packets; carries = carries } in
      let sound : s.taken ≤ length s.owed = h.0 in
      told_any (TakenWithin high) packets carries s h
      (omega (arith, length-take-le s.taken s.owed sound), subst Low (sym (take-take s.taken s.taken s.owed (le_refl s.taken))) h.1)
      (omega (arith, length-append s.owed (m ∷ [])), subst Low (sym (take-append-le s.taken s.owed (m ∷ []) sound)) h.1)

  newcomers_taken : (room : Room) (event : Event) → Each (TakenWithin high) (newcomers room event)
  newcomers_taken room (opened time) = (
    told_taken (room_info (room_info_of room.seed time) ∷ []) (length room.journal) record { number = room.opened + 1; member = None; owed = []; taken = 0; overrun = false } (le_refl 0, tt),
    tt,
  )
  newcomers_taken room (sent sender packet) = tt
  newcomers_taken room (failed sender bad) = tt
  newcomers_taken room (lost sender) = tt

  event_taken : (room : Room) (event : Event) → Each (TakenWithin high) room.sessions → Each (TakenWithin high) (next room event).sessions
  event_taken room event h =
      let P = TakenWithin high in
      subst (Each P) (sym (events_tell room event))
      (each_append P (map (session_then room event) (staying room event)) (newcomers room event)
      (each_map P (session_then room event) (staying room event)
      (each_weaker P (λ s. P (session_then room event s)) (λ s was. told_taken (owed_by room event s) (length (next room event).journal) (with_member (member_then room event s) s) was) (staying room event)
      (staying_each P room event h)))
      (newcomers_taken room event))

-- what carries no more carries no more than a greater length
taken_higher : (low high : ℕ) → low ≤ high → (s : Session) → TakenWithin low s → TakenWithin high s
taken_higher low high le s h = (h.0, each_weaker (λ m. m.carries ≤ low) (λ m. m.carries ≤ high) (λ m at_most. le_trans at_most le) (take s.taken s.owed) h.1)

-- ---- along a run

module _ (seed : Seed) where
  abbrev AreTaken : List Step → Type 0
  AreTaken steps = Each (TakenWithin (committed_after seed steps)) (life_after_all seed steps).room.sessions

  module _ (front : List Step) (h : AreTaken front) where
    took_taken : (number : ℕ) (s : Session) → s.number ≡ number → TakenWithin (committed_after seed front) s × (session_in (life_after_all seed front).room.sessions s.number ≡ Some s)
        → TakenWithin (committed_then (life_after_all seed front) (append_of (life_after_all seed front) (takes number))) (taken_all s)
    took_taken number s is was =
        let life = life_after_all seed front in
        let high = committed_then life (append_of life (takes number)) in
        let before : Low high (take s.taken s.owed) = (taken_higher life.committed high (committed_rises life (append_of life (takes number)) (run_within seed front)) s was.0).1 in
        let found : session_in life.room.sessions number ≡ Some s = subst (λ n. session_in life.room.sessions n ≡ Some s) is was.1 in
        let now : Low high (drop s.taken s.owed) = subst (λ o. Low high (untaken_of o)) found (take_commits seed front number) in (
          le_refl (length s.owed),
          subst (Low high) (take-append-drop s.taken s.owed ∙ sym (take_all (length s.owed) s.owed (le_refl (length s.owed)))) (each_append (λ m. m.carries ≤ high) (take s.taken s.owed) (drop s.taken s.owed) before now),
        )

    call_taken : (call : Call) → Each (TakenWithin (committed_then (life_after_all seed front) (append_of (life_after_all seed front) call))) (room_then (life_after_all seed front).room call).sessions
    call_taken (happens event) = event_taken (committed_after seed front) (life_after_all seed front).room event h
    call_taken commits =
        let life = life_after_all seed front in
        let high = committed_then life (pending_of life) in
        each_weaker (TakenWithin life.committed) (TakenWithin high) (taken_higher life.committed high (committed_rises life (pending_of life) (run_within seed front))) life.room.sessions h
    call_taken (takes number) =
        let life = life_after_all seed front in
        let records = append_of life (takes number) in
        let high = committed_then life records in
        let Was = TakenWithin life.committed in
        let Found : Session → Type 0 = λ s. session_in life.room.sessions s.number ≡ Some s in
        let Both : Session → Type 0 = λ s. Was s × Found s in
        each_took Both (TakenWithin high) number (λ s was. taken_higher life.committed high (committed_rises life records (run_within seed front)) s was.0) (took_taken number) life.room.sessions
        (each_with Was Found Both (λ s was found. (was, found)) life.room.sessions h (found_session 0 life.room.opened life.room.sessions (run_numbered seed front)))

  step_taken : (front : List Step) (s : Step) → AreTaken front → AreTaken (front ++ s ∷ [])
  step_taken front (acts call luck) h =
      let P : Room → ℕ → Type 0 = λ room committed. Each (TakenWithin committed) room.sessions in
      subst (λ then. P then.room then.committed) (sym (one_more seed front (acts call luck))) (life_after_call (life_after_all seed front) call luck P h (λ _. call_taken front h call))
  step_taken front (crashes more place) h = subst (λ then. Each (TakenWithin then.committed) then.room.sessions) (sym (one_more seed front (crashes more place))) tt

  run_taken : (steps : List Step) → AreTaken steps
  run_taken steps = each_run AreTaken step_taken tt steps

-- what a session was owed from a message on carries no more than is committed, up to the last that it has taken
pub taken_within : (seed : Seed) (steps : List Step) (number : ℕ) (s : Session) → session_in (life_after_all seed steps).room.sessions number ≡ Some s
    → (from count : ℕ) → from + count ≤ s.taken → Each (λ m. m.carries ≤ committed_after seed steps) (take count (drop from s.owed))
taken_within seed steps number s is from count le =
    let high = committed_after seed steps in
    let P : Message → Type 0 = λ m. m.carries ≤ high in
    let all : Low high (take s.taken s.owed) = (each_in (TakenWithin high) (life_after_all seed steps).room.sessions number s is (run_taken seed steps)).1 in
    let front : Low high (take (from + count) s.owed) = subst (Low high) (take-take (from + count) s.taken s.owed le) (each_take P (from + count) (take s.taken s.owed) all) in
    subst (Low high) (drop-take from count s.owed) (each_drop P from (take (from + count) s.owed) front)
