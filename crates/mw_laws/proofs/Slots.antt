-- Which slot a session plays, and what else stays of its member.
use Rattle.std.proofs.Common.{◌≡◌, ℕ, ◌<◌, ◌≤◌, ◌==◌, List, Bool, true, false, ◌∷◌, [], ◌++◌, Option, Some, None, IsTrue, length, refl, sym, ap, subst, ◌∙◌, arith, lt_irrefl, eqb-true}
use Rattle.mw_model.specs.Seed.{Seed}
use Rattle.mw_protocol.specs.Connecting.{Member}
use Rattle.mw_protocol.specs.Effect.{Effect}
use Rattle.mw_protocol.specs.Owed.{owed}
use Rattle.mw_protocol.specs.Packets.{Packet}
use Rattle.mw_protocol.specs.Rooms.{Session, Room, session_in, Event, opened, sent, failed, lost, member_in, members_in, or_else, member_after, with_member, without, session_after, new_session, effect_in, affected, closed, next, empty_room}
use Rattle.mw_protocol.specs.Standing.{Standing, standing}
use Rattle.mw_laws.specs.Strangers.{PlaysAs, SlotsStay}
use Rattle.mw_laws.specs.Turns.{Turn, happens, takes, after, after_all, room_after}
use Rattle.mw_laws.proofs.Each.{found_by, Each, each_any, each_weaker, each_with, each_map, each_push, each_in, each_without, each_taken}
use Rattle.mw_laws.proofs.Effects.{MayBecome, packet_facts, parting_plain}
use Rattle.mw_laws.proofs.Journals.{all-append}
use Rattle.mw_laws.proofs.Numbers.{IsNumbered, found, after_numbered, all_numbered, at_most}
use Rattle.mw_laws.proofs.Sessions.{told_member, after_number, new_number}

-- what holds of a member as long as it stays one holds of it for as long as its session is open
module _ (Q : Option Member → Type 0) (kept : (before after : Option Member) → MayBecome before after → Q before → Q after) where
  -- it holds of the member that the session of the number is
  abbrev At : ℕ → Session → Type 0
  At number s = s.number ≡ number → Q s.member

  -- the number was given, and it still holds of who has it
  abbrev Stays : ℕ → Room → Type 0
  Stays number room = (number ≤ room.opened) × Each (At number) room.sessions

  -- what an effect leaves of a member
  abbrev Leaves : ℕ → Effect → Session → Type 0
  Leaves sender effect s = IsTrue (s.number == sender) → Q s.member → Q (or_else effect.member s.member)

  member_stays : (effect : Effect) (sends : Bool) (member : Option Member) → (sends ≡ true → Q member → Q (or_else effect.member member)) → Q member → Q (member_after effect sends member)
  member_stays effect true member h plays = h refl plays
  member_stays effect false member h plays = plays

  session_stays : (number : ℕ) (seed : Seed) (before later : Standing) (length : ℕ) (effect : Effect) (sender : ℕ) (s : Session)
      → Leaves sender effect s → At number s → At number (session_after seed before later length effect sender s)
  session_stays number seed before later length effect sender s leaves plays is =
      let sends = s.number == sender in
      let then = member_after effect sends s.member in
      subst Q (sym (told_member (owed seed before later effect sends then) length (with_member then s)))
      (member_stays effect sends s.member leaves (plays (sym (after_number seed before later length effect sender s) ∙ is)))

  affected_stays : (number : ℕ) (room : Room) (sender : ℕ) (effect : Effect) → Each (Leaves sender effect) room.sessions → Stays number room → Stays number (affected room sender effect)
  affected_stays number room sender effect leaves h =
      let journal = room.journal ++ effect.records in
      let f = session_after room.seed (standing room.seed room.journal) (standing room.seed journal) (length journal) effect sender in (
        h.0,
        each_map (At number) f room.sessions (each_with (Leaves sender effect) (At number) (λ s. At number (f s))
            (λ s. session_stays number room.seed (standing room.seed room.journal) (standing room.seed journal) (length journal) effect sender s)
            room.sessions leaves h.1),
      )

  sent_leaves : (room : Room) (sender : ℕ) (packet : Packet) (s : Session) → member_in room.sessions s.number ≡ s.member → Leaves sender (effect_in room (sent sender packet)) s
  sent_leaves room sender packet s has sends plays =
      let is : member_in room.sessions sender ≡ s.member = ap (member_in room.sessions) (sym (eqb-true s.number sender sends)) ∙ has in
      let made = (effect_in room (sent sender packet)).member in
      subst (λ member. Q (or_else made member)) is
      (kept (member_in room.sessions sender) (or_else made (member_in room.sessions sender))
      (packet_facts room.seed (standing room.seed room.journal) (members_in room.sessions) (member_in room.sessions sender) packet).2 (subst Q (sym is) plays))

  lost_leaves : (room : Room) (sender : ℕ) (s : Session) → Leaves sender (effect_in room (lost sender)) s
  lost_leaves room sender s sends plays = subst (λ made. Q (or_else made s.member)) (sym (parting_plain room.seed (member_in room.sessions sender)).2) plays

  next_stays : (number : ℕ) (room : Room) (event : Event) → IsNumbered room → Stays number room → Stays number (next room event)
  next_stays number room (opened time) numbered h =
      let low : number ≤ room.opened = h.0 in
      let new : At number (new_session room time) = λ is. absurd (lt_irrefl number (subst (λ n. number < n) (sym (new_number room time) ∙ is) (omega arith))) in
      (omega arith, each_push (At number) room.sessions (new_session room time) h.1 new)
  next_stays number room (sent sender packet) numbered h =
      affected_stays number room sender (effect_in room (sent sender packet))
      (each_weaker (λ s. member_in room.sessions s.number ≡ s.member) (Leaves sender (effect_in room (sent sender packet))) (sent_leaves room sender packet) room.sessions (found 0 room.opened room.sessions numbered))
      h
  next_stays number room (failed sender bad) numbered h =
      affected_stays number room sender (effect_in room (failed sender bad)) (each_any (Leaves sender (effect_in room (failed sender bad))) (λ s sends plays. plays) room.sessions) h
  next_stays number room (lost sender) numbered h =
      affected_stays number (closed room sender) sender (effect_in room (lost sender))
      (each_any (Leaves sender (effect_in room (lost sender))) (lost_leaves room sender) (without sender room.sessions))
      (h.0, each_without (At number) sender room.sessions h.1)

  after_stays : (number : ℕ) (room : Room) (turn : Turn) → IsNumbered room → Stays number room → Stays number (after room turn)
  after_stays number room (happens event) numbered h = next_stays number room event numbered h
  after_stays number room (takes who) numbered h = (h.0, each_taken (At number) who (λ s plays. plays) room.sessions h.1)

  all_stay : (number : ℕ) (room : Room) (turns : List Turn) → IsNumbered room → Stays number room → Stays number (after_all room turns)
  all_stay number room [] numbered h = h
  all_stay number room (t ∷ ts) numbered h = all_stay number (after room t) ts (after_numbered room t numbered) (after_stays number room t numbered h)

  -- it holds where the member is found
  stays_at : (m : Member) (number : ℕ) (room : Room) → Q (Some m) → IsNumbered room → member_in room.sessions number ≡ Some m → Stays number room
  stays_at m number room holds numbered is = (
    at_most 0 room.opened room.sessions number m numbered is,
    each_weaker (λ s. member_in room.sessions s.number ≡ s.member) (At number)
        (λ s has same. subst Q (sym is ∙ ap (member_in room.sessions) (sym same) ∙ has) holds)
        room.sessions (found 0 room.opened room.sessions numbered),
  )

  pub member_later : (seed : Seed) (turns more : List Turn) (number : ℕ) (m : Member) (s : Session) → Q (Some m)
      → member_in (room_after seed turns).sessions number ≡ Some m → session_in (room_after seed (turns ++ more)).sessions number ≡ Some s → Q s.member
  member_later seed turns more number m s holds was is =
      let room = room_after seed turns in
      let numbered = all_numbered (empty_room seed) turns (omega arith) in
      let later : Stays number (room_after seed (turns ++ more)) =
      subst (Stays number) (sym (all-append (empty_room seed) turns more)) (all_stay number room more numbered (stays_at m number room holds numbered was)) in
      each_in (At number) (room_after seed (turns ++ more)).sessions number s is later.1 (found_by (room_after seed (turns ++ more)).sessions number s is).0

still_plays : (m : Member) (before after : Option Member) → MayBecome before after → PlaysAs m before → PlaysAs m after
still_plays m None after h plays = absurd plays
still_plays m (Some k) None h plays = absurd h
still_plays m (Some k) (Some n) h plays = (h.0 ∙ plays.0, h.1 ∙ plays.1)

pub slots_stay : SlotsStay
slots_stay seed turns more number m s was is = member_later (PlaysAs m) (still_plays m) seed turns more number m s (refl, refl) was is
