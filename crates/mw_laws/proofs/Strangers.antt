-- What sessions hear that play no slot.
use Rattle.std.proofs.Common.{◌≡◌, ℕ, ◌+◌, ◌==◌, List, Bool, true, false, ◌∷◌, [], ◌++◌, length, Option, Some, None, refl, sym, ap, subst, ◌∙◌, arith, IsTrue}
use Rattle.std.proofs.lemmas.Bool.{and_from, eqb-true}
use Rattle.std.specs.List.{list_all}
use Rattle.mw_model.specs.Seed.{Seed}
use Rattle.mw_protocol.specs.Connecting.{Member, member_by}
use Rattle.mw_protocol.specs.Effect.{Effect}
use Rattle.mw_protocol.specs.Effects.{stranger_effect, effect_of}
use Rattle.mw_protocol.specs.Entering.{joining, parting}
use Rattle.mw_protocol.specs.Messages.{ServerPacket, room_info}
use Rattle.mw_protocol.specs.Players.{room_info_of}
use Rattle.mw_protocol.specs.Owed.{owed}
use Rattle.mw_protocol.specs.Packets.{Packet, Connect, connect, connect_update, sync, location_checks, location_scouts, update_hint, status_update, say, get_data_package, bounce, get, change, set_notify}
use Rattle.mw_protocol.specs.Rooms.{session_in, empty_room, Session, Room, Event, opened, sent, failed, lost, told, with_member, member_after, member_in, members_in, session_after, new_session, effect_in, affected, closed, next, without}
use Rattle.mw_protocol.specs.Standing.{Standing, standing}
use Rattle.mw_laws.specs.Strangers.{is_for_strangers, all_for_strangers, StrangersHear}
use Rattle.mw_laws.specs.Turns.{Turn, happens, takes, after, after_all, room_after, now, is_of, member_then, owed_by}
use Rattle.mw_laws.proofs.Each.{found_by, Each, each_with, each_weaker, each_any, each_map, each_push, each_in, each_without, each_taken}
use Rattle.mw_laws.proofs.Lists.{passed-append, passed-take}
use Rattle.mw_laws.proofs.Numbers.{IsNumbered, found, after_numbered}
use Rattle.mw_laws.proofs.Sessions.{no_member, told_any, told_member, none_before, none_made}

-- ---- one session

-- all that the session was owed is for strangers
abbrev Heard : Session → Type 0
Heard s = IsTrue (list_all all_for_strangers s.owed)

-- where it is one
abbrev Quiet : Session → Type 0
Quiet s = s.member ≡ None → Heard s

told_heard : (packets : List ServerPacket) (length : ℕ) (s : Session) → Heard s → list_all is_for_strangers packets ≡ true → Heard (told packets length s)
told_heard packets length s h k =
    told_any Heard packets length s h (passed-take all_for_strangers s.taken s.owed h)
    (passed-append all_for_strangers s.owed (record { packets = packets; carries = length } ∷ []) h (and_from (list_all is_for_strangers packets) true k refl))

-- an effect answers who stays a stranger as one
abbrev AnswersStranger : Effect → Type 0
AnswersStranger effect = effect.member ≡ None → IsTrue (list_all is_for_strangers effect.answers)

owed_quiet : (seed : Seed) (before later : Standing) (effect : Effect) (sends : Bool) (member : Option Member) → (sends ≡ true → member ≡ None → AnswersStranger effect)
    → member_after effect sends member ≡ None → list_all is_for_strangers (owed seed before later effect sends (member_after effect sends member)) ≡ true
owed_quiet seed before later effect false member h none = subst (λ m. list_all is_for_strangers (owed seed before later effect false m) ≡ true) (sym none) refl
owed_quiet seed before later effect true member h none =
    subst (λ m. list_all is_for_strangers (owed seed before later effect true m) ≡ true) (sym none)
    (passed-append is_for_strangers (effect.answers ++ []) []
    (passed-append is_for_strangers effect.answers [] (h refl (none_before effect true member none) (none_made effect member none)) refl) refl)

session_quiet : (seed : Seed) (before later : Standing) (length : ℕ) (effect : Effect) (sender : ℕ) (s : Session) → (IsTrue (s.number == sender) → s.member ≡ None → AnswersStranger effect)
    → Quiet s → Quiet (session_after seed before later length effect sender s)
session_quiet seed before later length effect sender s h quiet none =
    let sends = s.number == sender in
    let then = member_after effect sends s.member in
    let packets = owed seed before later effect sends then in
    let stays : then ≡ None = sym (told_member packets length (with_member then s)) ∙ none in
    told_heard packets length (with_member then s) (quiet (none_before effect sends s.member stays)) (owed_quiet seed before later effect sends s.member h stays)

-- ---- effects

joining_answers : (seed : Seed) (now : Standing) (fields : Connect) (made : Option Member) → AnswersStranger (joining seed now fields made)
joining_answers seed now fields None e = refl
joining_answers seed now fields (Some m) e = absurd (no_member m e)

stranger_answers : (seed : Seed) (now : Standing) (packet : Packet) → AnswersStranger (stranger_effect seed now packet)
stranger_answers seed now (connect fields) = joining_answers seed now fields (member_by seed fields)
stranger_answers seed now (get_data_package games) = λ e. refl
stranger_answers seed now (connect_update u) = λ e. refl
stranger_answers seed now sync = λ e. refl
stranger_answers seed now (location_checks numbers) = λ e. refl
stranger_answers seed now (location_scouts numbers as_hint) = λ e. refl
stranger_answers seed now (update_hint u) = λ e. refl
stranger_answers seed now (status_update s) = λ e. refl
stranger_answers seed now (say text) = λ e. refl
stranger_answers seed now (bounce b) = λ e. refl
stranger_answers seed now (get keys further) = λ e. refl
stranger_answers seed now (change set) = λ e. refl
stranger_answers seed now (set_notify keys) = λ e. refl

none_answers : (seed : Seed) (now : Standing) (members : List Member) (member : Option Member) (packet : Packet) → member ≡ None → AnswersStranger (effect_of seed now members member packet)
none_answers seed now members None packet e = stranger_answers seed now packet
none_answers seed now members (Some m) packet e = absurd (no_member m e)

parting_answers : (seed : Seed) (member : Option Member) → AnswersStranger (parting seed member)
parting_answers seed None e = refl
parting_answers seed (Some m) e = refl

-- ---- rooms

abbrev IsQuiet : Room → Type 0
IsQuiet room = Each Quiet room.sessions

-- what an effect asks for at a session of its sender's number
abbrev AnswersAt : ℕ → Effect → Session → Type 0
AnswersAt sender effect s = IsTrue (s.number == sender) → s.member ≡ None → AnswersStranger effect

affected_quiet : (room : Room) (sender : ℕ) (effect : Effect) → Each (AnswersAt sender effect) room.sessions → IsQuiet room → IsQuiet (affected room sender effect)
affected_quiet room sender effect h quiet =
    let journal = room.journal ++ effect.records in
    let f = session_after room.seed (standing room.seed room.journal) (standing room.seed journal) (length journal) effect sender in
    each_map Quiet f room.sessions (each_with (AnswersAt sender effect) Quiet (λ s. Quiet (f s))
    (λ s answers. session_quiet room.seed (standing room.seed room.journal) (standing room.seed journal) (length journal) effect sender s answers)
    room.sessions h quiet)

-- of the session that sent it, found by its number
sent_answers : (room : Room) (number : ℕ) (packet : Packet) (s : Session) → member_in room.sessions s.number ≡ s.member → AnswersAt number (effect_in room (sent number packet)) s
sent_answers room number packet s has sends none =
    none_answers room.seed (standing room.seed room.journal) (members_in room.sessions) (member_in room.sessions number) packet
    (ap (member_in room.sessions) (sym (eqb-true s.number number sends)) ∙ has ∙ none)

new_quiet : (room : Room) (time : ℕ) → Quiet (new_session room time)
new_quiet room time none =
    told_heard (room_info (room_info_of room.seed time) ∷ []) (length room.journal) record { number = room.opened + 1; member = None; owed = []; taken = 0; overrun = false } refl refl

next_quiet : (room : Room) (event : Event) → IsNumbered room → IsQuiet room → IsQuiet (next room event)
next_quiet room (opened time) numbered quiet = each_push Quiet room.sessions (new_session room time) quiet (new_quiet room time)
next_quiet room (sent number packet) numbered quiet =
    let effect = effect_in room (sent number packet) in
    affected_quiet room number effect
    (each_weaker (λ s. member_in room.sessions s.number ≡ s.member) (AnswersAt number effect) (sent_answers room number packet) room.sessions (found 0 room.opened room.sessions numbered))
    quiet
next_quiet room (failed number bad) numbered quiet =
    let effect = effect_in room (failed number bad) in
    affected_quiet room number effect (each_any (AnswersAt number effect) (λ s sends none e. refl) room.sessions) quiet
next_quiet room (lost number) numbered quiet =
    let effect = effect_in room (lost number) in
    affected_quiet (closed room number) number effect
    (each_any (AnswersAt number effect) (λ s sends none. parting_answers room.seed (member_in room.sessions number)) (without number room.sessions))
    (each_without Quiet number room.sessions quiet)

after_quiet : (room : Room) (turn : Turn) → IsNumbered room → IsQuiet room → IsQuiet (after room turn)
after_quiet room (happens event) numbered quiet = next_quiet room event numbered quiet
after_quiet room (takes number) numbered quiet = each_taken Quiet number (λ s h. h) room.sessions quiet

all_quiet : (room : Room) (turns : List Turn) → IsNumbered room → IsQuiet room → IsQuiet (after_all room turns)
all_quiet room [] numbered quiet = quiet
all_quiet room (t ∷ ts) numbered quiet = all_quiet (after room t) ts (after_numbered room t numbered) (after_quiet room t numbered quiet)

event_answers : (room : Room) (event : Event) (s : Session) → member_in room.sessions s.number ≡ s.member → IsTrue (is_of event s.number) → s.member ≡ None → AnswersStranger (effect_in room event)
event_answers room (opened time) s has sends none = λ e. refl
event_answers room (sent number packet) s has sends none = sent_answers room number packet s has sends none
event_answers room (failed number bad) s has sends none = λ e. refl
event_answers room (lost number) s has sends none = parting_answers room.seed (member_in room.sessions number)

owed_to_strangers : (room : Room) (event : Event) (number : ℕ) (s : Session) → session_in room.sessions number ≡ Some s → member_then room event s ≡ None → IsTrue (list_all is_for_strangers (owed_by room event s))
owed_to_strangers room event number s is none =
    let found = found_by room.sessions number s is in
    owed_quiet room.seed (now room) (now (next room event)) (effect_in room event) (is_of event s.number) s.member
    (event_answers room event s (ap (member_in room.sessions) found.0 ∙ found.1)) none

heard_by_strangers : (seed : Seed) (turns : List Turn) (number : ℕ) (s : Session) → session_in (room_after seed turns).sessions number ≡ Some s → s.member ≡ None → Heard s
heard_by_strangers seed turns number s is none = each_in Quiet (room_after seed turns).sessions number s is (all_quiet (empty_room seed) turns (omega arith) tt) none

pub strangers_hear : StrangersHear
strangers_hear = record { events = owed_to_strangers; turns = heard_by_strangers }
