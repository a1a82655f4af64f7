-- What is kept of a room follows from what was kept: laws of the definitions alone.
use Rattle.std.proofs.Common.{◌≡◌, ℕ, ◌+◌, ◌==◌, List, [], ◌∷◌, ◌++◌, true, false, Option, Some, None, length, map, take, drop, max, cond, option_map, refl, sym, ap, ap₂, ◌∙◌, arith, length-append}
use Rattle.std.proofs.lemmas.List.{map-append, drop_all, drop-append-le, length-take}
use Rattle.mw_protocol.specs.Connecting.{Member}
use Rattle.mw_protocol.specs.Effect.{Effect}
use Rattle.mw_protocol.specs.Effects.{effect_of}
use Rattle.mw_protocol.specs.Entering.{parting}
use Rattle.mw_protocol.specs.Messages.{ServerPacket, room_info}
use Rattle.mw_protocol.specs.Players.{room_info_of}
use Rattle.mw_protocol.specs.Rooms as plain
use Rattle.mw_protocol.specs.Rooms.{Message, Session, Room, Event, IsSound, AllSound, text_of, untaken, greatest, is_full, session_in, member_in, members_in, or_more, closed, without, taken_among, taken_all, untaken_of, next, taken, effect_in, session_after, new_session, opened, sent, failed, lost}
use Rattle.mw_protocol.specs.Standing.{Standing, steps, standing}
use Rattle.mw_owed.specs.Written.{message_of}
use Rattle.mw_room.specs.Known as kept
use Rattle.mw_laws.proofs.Journal.{steps-append}
use Rattle.mw_room.specs.Known.{Shown, shown, known, shown_after, emptied, member_at, members_of, shown_at, texts_at, emptied_among, leaves, known_effect, known_affected, known_next, known_taken, Known}

-- ---- one session

greatest-more : (ms : List Message) (m : Message) → greatest (ms ++ m ∷ []) ≡ max (greatest ms) m.carries
greatest-more [] m = omega arith
greatest-more (x ∷ ms) m = omega (arith, greatest-more ms m)

with_message_shown : (m : Message) (s : Session) → IsSound s → shown (plain.with_message m s) ≡ kept.with_text (text_of m) m.carries (shown s)
with_message_shown m s h =
    let more : drop s.taken (s.owed ++ m ∷ []) ≡ untaken s ++ m ∷ [] = drop-append-le s.taken s.owed (m ∷ []) h in
    ap (λ (ms : List Message). record { number = s.number; member = s.member; texts = map text_of ms; shows = greatest ms; overrun = s.overrun }) more
    ∙ ap₂ (λ (ts : List (List ℕ)) (n : ℕ). record { number = s.number; member = s.member; texts = ts; shows = n; overrun = s.overrun }) (map-append text_of (untaken s) (m ∷ [])) (greatest-more (untaken s) m)

-- what an overrun session keeps is taken
none_untaken : (s : Session) → untaken (plain.overrun_by s) ≡ []
none_untaken s = drop_all s.taken (take s.taken s.owed) (simp length-take (omega arith))

overrun_shown : (s : Session) → shown (plain.overrun_by s) ≡ kept.dropped (shown s)
overrun_shown s = ap (λ (ms : List Message). record { number = s.number; member = s.member; texts = map text_of ms; shows = greatest ms; overrun = true }) (none_untaken s)

owing_shown : (m : Message) (s : Session) → IsSound s → shown (plain.owing m s) ≡ kept.owing (text_of m) m.carries (shown s)
owing_shown m s h =
    elim s.overrun as (λ b. shown (cond b s (cond (is_full (map text_of (untaken s))) (plain.overrun_by s) (plain.with_message m s)))
    ≡ cond b (shown s) (cond (is_full (map text_of (untaken s))) (kept.dropped (shown s)) (kept.with_text (text_of m) m.carries (shown s)))) [
      | true ↦ refl
      | false ↦ elim (is_full (map text_of (untaken s))) as (λ b. shown (cond b (plain.overrun_by s) (plain.with_message m s))
          ≡ cond b (kept.dropped (shown s)) (kept.with_text (text_of m) m.carries (shown s))) [
            | true ↦ overrun_shown s
            | false ↦ with_message_shown m s h
          ]
    ]

pub told_shown : (ps : List ServerPacket) (len : ℕ) (s : Session) → IsSound s → shown (plain.told ps len s) ≡ kept.told (message_of ps) len (shown s)
told_shown [] len s h = refl
told_shown (p ∷ ps) len s h = owing_shown record { packets = p ∷ ps; carries = len } s h

sound_told : (ps : List ServerPacket) (len : ℕ) (s : Session) → IsSound s → IsSound (plain.told ps len s)
sound_told [] len s h = h
sound_told (p ∷ ps) len s h =
    let m : Message = record { packets = p ∷ ps; carries = len } in
    elim s.overrun as (λ b. IsSound (cond b s (cond (is_full (map text_of (untaken s))) (plain.overrun_by s) (plain.with_message m s)))) [
      | true ↦ h
      | false ↦ elim (is_full (map text_of (untaken s))) as (λ b. IsSound (cond b (plain.overrun_by s) (plain.with_message m s))) [
        | true ↦ simp length-take (omega (arith, h))
        | false ↦ simp length-append (omega (arith, h))
      ]
    ]

emptied_shown : (s : Session) → emptied (shown s) ≡ shown (taken_all s)
emptied_shown s =
    ap (λ (ms : List Message). record { number = s.number; member = s.member; texts = map text_of ms; shows = greatest ms; overrun = s.overrun })
    (sym (drop_all (length s.owed) s.owed (omega arith)))

-- ---- by number

pub member_is : (n : ℕ) (ss : List Session) → member_at n (map shown ss) ≡ member_in ss n
member_is n [] = refl
member_is n (s ∷ ss) =
    elim (s.number == n) as (λ b. cond b s.member (member_at n (map shown ss)) ≡ cond b s.member (member_in ss n)) [ true ↦ refl | false ↦ member_is n ss ]

pub members_are : (ss : List Session) → members_of (map shown ss) ≡ members_in ss
members_are [] = refl
members_are (s ∷ ss) = ap (or_more s.member) (members_are ss)

pub texts_are : (n : ℕ) (ss : List Session) → texts_at n (map shown ss) ≡ map text_of (untaken_of (session_in ss n))
texts_are n [] = refl
texts_are n (s ∷ ss) =
    elim (s.number == n) as (λ b. cond b (shown s).texts (texts_at n (map shown ss)) ≡ map text_of (untaken_of (cond b (Some s) (session_in ss n)))) [
      | true ↦ refl
      | false ↦ texts_are n ss
    ]

pub shown_is : (n : ℕ) (ss : List Session) → shown_at n (map shown ss) ≡ option_map shown (session_in ss n)
shown_is n [] = refl
shown_is n (s ∷ ss) =
    elim (s.number == n) as (λ b. cond b (Some (shown s)) (shown_at n (map shown ss)) ≡ option_map shown (cond b (Some s) (session_in ss n))) [
      | true ↦ refl
      | false ↦ shown_is n ss
    ]

leaves_are : (n : ℕ) (ss : List Session) → leaves n (map shown ss) ≡ map shown (without n ss)
leaves_are n [] = refl
leaves_are n (s ∷ ss) =
    elim (s.number == n) as (λ b. cond b (map shown ss) (shown s ∷ leaves n (map shown ss)) ≡ map shown (cond b ss (s ∷ without n ss))) [
      | true ↦ refl
      | false ↦ ap (λ (xs : List Shown). shown s ∷ xs) (leaves_are n ss)
    ]

emptied_are : (n : ℕ) (ss : List Session) → emptied_among n (map shown ss) ≡ map shown (taken_among n ss)
emptied_are n [] = refl
emptied_are n (s ∷ ss) =
    elim (s.number == n) as (λ b. cond b (emptied (shown s) ∷ map shown ss) (shown s ∷ emptied_among n (map shown ss)) ≡ map shown (cond b (taken_all s ∷ ss) (s ∷ taken_among n ss))) [
      | true ↦ ap (λ (x : Shown). x ∷ map shown ss) (emptied_shown s)
      | false ↦ ap (λ (xs : List Shown). shown s ∷ xs) (emptied_are n ss)
    ]

-- ---- sound sessions

sound_map : (f : Session → Session) → ((s : Session) → IsSound s → IsSound (f s)) → (ss : List Session) → AllSound ss → AllSound (map f ss)
sound_map f keeps [] h = tt
sound_map f keeps (s ∷ ss) h = (keeps s h.0, sound_map f keeps ss h.1)

sound_more : (ss : List Session) (s : Session) → AllSound ss → IsSound s → AllSound (ss ++ s ∷ [])
sound_more [] s h k = (k, tt)
sound_more (x ∷ ss) s h k = (h.0, sound_more ss s h.1 k)

sound_without : (n : ℕ) (ss : List Session) → AllSound ss → AllSound (without n ss)
sound_without n [] h = tt
sound_without n (s ∷ ss) h = elim (s.number == n) as (λ b. AllSound (cond b ss (s ∷ without n ss))) [ true ↦ h.1 | false ↦ (h.0, sound_without n ss h.1) ]

sound_among : (n : ℕ) (ss : List Session) → AllSound ss → AllSound (taken_among n ss)
sound_among n [] h = tt
sound_among n (s ∷ ss) h =
    let all : IsSound (taken_all s) = omega arith in
    elim (s.number == n) as (λ b. AllSound (cond b (taken_all s ∷ ss) (s ∷ taken_among n ss))) [ true ↦ (all, h.1) | false ↦ (h.0, sound_among n ss h.1) ]

sound_after : (r : Room) (sender : ℕ) (effect : Effect) → AllSound r.sessions → AllSound (plain.affected r sender effect).sessions
sound_after r sender effect h = sound_map _ (λ s k. sound_told _ _ (plain.with_member _ s) k) r.sessions h

pub sound_next : (r : Room) (e : Event) → AllSound r.sessions → AllSound (next r e).sessions
sound_next r (opened time) h =
    let none : IsSound record { number = r.opened + 1; member = None; owed = []; taken = 0; overrun = false } = omega arith in
    sound_more r.sessions (new_session r time) h
    (sound_told (room_info (room_info_of r.seed time) ∷ []) (length r.journal) record { number = r.opened + 1; member = None; owed = []; taken = 0; overrun = false } none)
sound_next r (sent number packet) h = sound_after r number (effect_in r (sent number packet)) h
sound_next r (failed number bad) h = sound_after r number (effect_in r (failed number bad)) h
sound_next r (lost number) h = sound_after (closed r number) number (effect_in r (lost number)) (sound_without number r.sessions h)

pub sound_taken : (r : Room) (n : ℕ) → AllSound r.sessions → AllSound (taken r n).sessions
sound_taken r n h = sound_among n r.sessions h

-- ---- rooms

sessions_after : (f : Session → Session) (g : Shown → Shown) → ((s : Session) → IsSound s → shown (f s) ≡ g (shown s)) → (ss : List Session) → AllSound ss → map shown (map f ss) ≡ map g (map shown ss)
sessions_after f g same [] h = refl
sessions_after f g same (s ∷ ss) h = ap₂ (λ (x : Shown) (xs : List Shown). x ∷ xs) (same s h.0) (sessions_after f g same ss h.1)

pub effect_is : (r : Room) (e : Event) → known_effect (known r) e ≡ effect_in r e
effect_is r (opened time) = refl
effect_is r (sent number packet) =
    ap₂ (λ (ms : List Member) (m : Option Member). effect_of r.seed (standing r.seed r.journal) ms m packet) (members_are r.sessions) (member_is number r.sessions)
effect_is r (failed number bad) = refl
effect_is r (lost number) = ap (parting r.seed) (member_is number r.sessions)

-- what is kept after an effect
affected_is : (r : Room) (sender : ℕ) (effect : Effect) → AllSound r.sessions → known (plain.affected r sender effect) ≡ known_affected (known r) sender effect
affected_is r sender effect h =
    let before = standing r.seed r.journal in
    let after = steps r.seed before effect.records in
    let len = length r.journal + length effect.records in
    ap₂ (λ (now : Standing) (n : ℕ). record { seed = r.seed; now = now; length = n; opened = r.opened; sessions = map shown (map (session_after r.seed before now n effect sender) r.sessions) })
    (steps-append r.seed _ r.journal effect.records) (length-append r.journal effect.records)
    ∙ ap (λ (ss : List Shown). record { seed = r.seed; now = after; length = len; opened = r.opened; sessions = ss })
    (sessions_after (session_after r.seed before after len effect sender) (shown_after r.seed before after effect sender len)
    (λ s k. told_shown _ len (plain.with_member _ s) k) r.sessions h)

-- what is kept after an event follows from what is kept before
pub known_is : (r : Room) (e : Event) → AllSound r.sessions → known (next r e) ≡ known_next (known r) e
known_is r (opened time) h =
    let none : IsSound record { number = r.opened + 1; member = None; owed = []; taken = 0; overrun = false } = omega arith in
    let new = told_shown (room_info (room_info_of r.seed time) ∷ []) (length r.journal) record { number = r.opened + 1; member = None; owed = []; taken = 0; overrun = false } none in
    ap (λ (ss : List Shown). record { seed = r.seed; now = standing r.seed r.journal; length = length r.journal; opened = r.opened + 1; sessions = ss })
    (map-append shown r.sessions (new_session r time ∷ []) ∙ ap (λ (s : Shown). map shown r.sessions ++ s ∷ []) new)
known_is r (sent number packet) h =
    affected_is r number (effect_in r (sent number packet)) h ∙ ap (known_affected (known r) number) (sym (effect_is r (sent number packet)))
known_is r (failed number bad) h = affected_is r number (effect_in r (failed number bad)) h
known_is r (lost number) h =
    affected_is (closed r number) number (effect_in r (lost number)) (sound_without number r.sessions h)
    ∙ ap₂ (λ (c : Known) (e : Effect). known_affected c number e)
    (ap (λ (ss : List Shown). record { seed = r.seed; now = standing r.seed r.journal; length = length r.journal; opened = r.opened; sessions = ss }) (sym (leaves_are number r.sessions)))
    (sym (effect_is r (lost number)))

-- the same for taking
pub taken_is : (r : Room) (n : ℕ) → known (taken r n) ≡ known_taken (known r) n
taken_is r n =
    ap (λ (ss : List Shown). record { seed = r.seed; now = standing r.seed r.journal; length = length r.journal; opened = r.opened; sessions = ss }) (sym (emptied_are n r.sessions))
