-- The sessions of a room have numbers of their own.
use Rattle.std.proofs.Common.{◌≡◌, ℕ, ◌+◌, ◌<◌, ◌≤◌, ◌==◌, List, true, false, cond, Some, ◌∷◌, [], ◌++◌, map, length, refl, sym, subst, ◌∙◌, arith, eq-eqb, ne_eqb, eqb-true, lt_irrefl}
use Rattle.std.proofs.lemmas.Bool.{cond_both, cond-true, cond-false}
use Rattle.mw_protocol.specs.Connecting.{Member}
use Rattle.mw_protocol.specs.Effect.{Effect}
use Rattle.mw_protocol.specs.Rooms.{Session, Room, Event, opened, sent, failed, lost, member_in, without, taken_all, taken_among, session_after, new_session, effect_in, affected, closed, next}
use Rattle.mw_protocol.specs.Standing.{standing}
use Rattle.mw_laws.specs.Turns.{Turn, happens, takes, after, after_all}
use Rattle.mw_laws.proofs.Each.{Each, each_weaker, each_with, none_some}
use Rattle.mw_laws.proofs.Sessions.{after_number, new_number}

-- the numbers ascend from one that is below them all up to the last that was given
abbrev pub Ascend : ℕ → List Session → ℕ → Type 0
Ascend low [] high = low ≤ high
Ascend low (s ∷ ss) high = (low < s.number) × Ascend s.number ss high

pub below : (low high : ℕ) (ss : List Session) → Ascend low ss high → low ≤ high
below low high [] h = h
below low high (s ∷ ss) h = let rest = below s.number high ss h.1 in let first = h.0 in omega arith

lower : (low least high : ℕ) (ss : List Session) → least ≤ low → Ascend low ss high → Ascend least ss high
lower low least high [] le h = omega arith
lower low least high (s ∷ ss) le h = let first = h.0 in (omega arith, h.1)

pushed : (low high : ℕ) (ss : List Session) (s : Session) → s.number ≡ high + 1 → Ascend low ss high → Ascend low (ss ++ s ∷ []) (high + 1)
pushed low high [] s e h = (omega arith, omega arith)
pushed low high (t ∷ ss) s e h = (h.0, pushed t.number high ss s e h.1)

kept : (f : Session → Session) → ((s : Session) → (f s).number ≡ s.number) → (low high : ℕ) (ss : List Session) → Ascend low ss high → Ascend low (map f ss) high
kept f same low high [] h = h
kept f same low high (s ∷ ss) h =
    (subst (λ n. low < n) (sym (same s)) h.0, subst (λ n. Ascend n (map f ss) high) (sym (same s)) (kept f same s.number high ss h.1))

fewer : (low high number : ℕ) (ss : List Session) → Ascend low ss high → Ascend low (without number ss) high
fewer low high number [] h = h
fewer low high number (s ∷ ss) h =
    let first = h.0 in
    cond_both (s.number == number) ss (s ∷ without number ss) (λ ts. Ascend low ts high)
    (λ _. lower s.number low high ss (omega arith) h.1)
    (λ _. (h.0, fewer s.number high number ss h.1))

took : (low high number : ℕ) (ss : List Session) → Ascend low ss high → Ascend low (taken_among number ss) high
took low high number [] h = h
took low high number (s ∷ ss) h =
    cond_both (s.number == number) (taken_all s ∷ ss) (s ∷ taken_among number ss) (λ ts. Ascend low ts high) (λ _. h) (λ _. (h.0, took s.number high number ss h.1))

-- ---- rooms

abbrev pub IsNumbered : Room → Type 0
IsNumbered room = Ascend 0 room.sessions room.opened

-- an effect leaves the numbers
affected_numbered : (room : Room) (sender : ℕ) (effect : Effect) → IsNumbered room → IsNumbered (affected room sender effect)
affected_numbered room sender effect h =
    let journal = room.journal ++ effect.records in
    let f = session_after room.seed (standing room.seed room.journal) (standing room.seed journal) (length journal) effect sender in
    kept f (after_number room.seed (standing room.seed room.journal) (standing room.seed journal) (length journal) effect sender) 0 room.opened room.sessions h

next_numbered : (room : Room) (event : Event) → IsNumbered room → IsNumbered (next room event)
next_numbered room (opened time) h = pushed 0 room.opened room.sessions (new_session room time) (new_number room time) h
next_numbered room (sent number packet) h = affected_numbered room number (effect_in room (sent number packet)) h
next_numbered room (failed number bad) h = affected_numbered room number (effect_in room (failed number bad)) h
next_numbered room (lost number) h =
    affected_numbered (closed room number) number (effect_in room (lost number)) (fewer 0 room.opened number room.sessions h)

pub after_numbered : (room : Room) (turn : Turn) → IsNumbered room → IsNumbered (after room turn)
after_numbered room (happens event) h = next_numbered room event h
after_numbered room (takes number) h = took 0 room.opened number room.sessions h

-- ---- who has a number

pub above : (low high : ℕ) (ss : List Session) → Ascend low ss high → Each (λ t. low < t.number) ss
above low high [] h = tt
above low high (s ∷ ss) h =
    let first : low < s.number = h.0 in
    (first, each_weaker (λ t. s.number < t.number) (λ t. low < t.number) (λ t more. omega arith) ss (above s.number high ss h.1))

-- each number finds its session's member
pub found : (low high : ℕ) (ss : List Session) → Ascend low ss high → Each (λ s. member_in ss s.number ≡ s.member) ss
found low high [] h = tt
found low high (s ∷ ss) h = (
  cond-true (s.number == s.number) s.member (member_in ss s.number) (eq-eqb s.number s.number refl),
  each_with (λ t. s.number < t.number) (λ t. member_in ss t.number ≡ t.member) (λ t. member_in (s ∷ ss) t.number ≡ t.member)
      (λ t more e. cond-false (s.number == t.number) s.member (member_in ss t.number) (ne_eqb s.number t.number (λ same. lt_irrefl t.number (subst (λ n. n < t.number) same more))) ∙ e)
      ss (above s.number high ss h.1) (found s.number high ss h.1),
)

-- a number at which a member is found was given
pub at_most : (low high : ℕ) (ss : List Session) (number : ℕ) (m : Member) → Ascend low ss high → member_in ss number ≡ Some m → number ≤ high
at_most low high [] number m h e = absurd (none_some m e)
at_most low high (s ∷ ss) number m h e =
    elim (s.number == number) as (λ b. (s.number == number) ≡ b → cond b s.member (member_in ss number) ≡ Some m → number ≤ high) [
      | true ↦ λ is _. subst (λ n. n ≤ high) (eqb-true s.number number is) (below s.number high ss h.1)
      | false ↦ λ _ later. at_most s.number high ss number m h.1 later
    ] refl e

pub all_numbered : (room : Room) (turns : List Turn) → IsNumbered room → IsNumbered (after_all room turns)
all_numbered room [] h = h
all_numbered room (t ∷ ts) h = all_numbered (after room t) ts (after_numbered room t h)
