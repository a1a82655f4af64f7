-- What sessions hear that play no slot, and whom a session plays.
use Rattle.std.specs.Prelude.{◌≡◌, ℕ, ◌++◌, ◌∷◌, [], List, Bool, true, false, Option, Some, None, IsTrue, IsSomeAnd}
use Rattle.std.specs.List.{list_all}
use Rattle.mw_model.specs.Seed.{Seed}
use Rattle.mw_protocol.specs.Asked.{view}
use Rattle.mw_protocol.specs.Connecting.{Member}
use Rattle.mw_protocol.specs.Effect.{Effect}
use Rattle.mw_protocol.specs.Effects.{effect_of, bad_effect}
use Rattle.mw_protocol.specs.Entering.{to_team, name_of}
use Rattle.mw_protocol.specs.Heard.{heard_by}
use Rattle.mw_protocol.specs.Messages.{ServerPacket, room_info, connected, received_items, room_update, connection_refused, location_info, data_package, invalid_packet, print, retrieved, set_reply, bounced}
use Rattle.mw_protocol.specs.Owed.{items_from, owed}
use Rattle.mw_protocol.specs.Packets.{Inbound, good, wrong}
use Rattle.mw_protocol.specs.Players.{connected_of}
use Rattle.mw_protocol.specs.Prints.{joined}
use Rattle.mw_protocol.specs.Records.{Record}
use Rattle.mw_protocol.specs.Rooms.{Message, Session, Room, Event, session_in, member_in, member_after}
use Rattle.mw_protocol.specs.Standing.{Standing, standing}
use Rattle.mw_laws.specs.Turns.{Turn, room_after, member_then, owed_by}

-- ---- after any turns

-- what may be told to a session that plays no slot
abbrev pub is_for_strangers : ServerPacket → Bool
is_for_strangers (room_info info) = true
is_for_strangers (connection_refused errors) = true
is_for_strangers (data_package content) = true
is_for_strangers (invalid_packet bad) = true
is_for_strangers (connected c) = false
is_for_strangers (received_items index items) = false
is_for_strangers (room_update locations points) = false
is_for_strangers (location_info items) = false
is_for_strangers (print p) = false
is_for_strangers (retrieved r) = false
is_for_strangers (set_reply r) = false
is_for_strangers (bounced b) = false

abbrev pub all_for_strangers : Message → Bool
all_for_strangers m = list_all is_for_strangers m.packets

-- in any room an event owes a session that then plays no slot only what is for such sessions, and so is all that it was owed after any turns
pub record StrangersHear : Type 0 where
  pub events : (room : Room) (event : Event) (number : ℕ) (s : Session)
      → session_in room.sessions number ≡ Some s → member_then room event s ≡ None
      → IsTrue (list_all is_for_strangers (owed_by room event s))
  pub turns : (seed : Seed) (turns : List Turn) (number : ℕ) (s : Session)
      → session_in (room_after seed turns).sessions number ≡ Some s → s.member ≡ None
      → IsTrue (list_all all_for_strangers s.owed)

-- it plays the same slot of the same team
abbrev pub PlaysAs : Member → Option Member → Type 0
PlaysAs m member = IsSomeAnd member (λ n. (n.team ≡ m.team) × (n.slot ≡ m.slot))

-- from any point of any turns to any later one, a session that plays a slot plays that one as long as it is open
abbrev pub SlotsStay : Type 0
SlotsStay = (seed : Seed) (turns more : List Turn) (number : ℕ) (m : Member) (s : Session)
    → member_in (room_after seed turns).sessions number ≡ Some m
    → session_in (room_after seed (turns ++ more)).sessions number ≡ Some s → PlaysAs m s.member

-- ---- by one element of a message

-- what an element does that a session sends which plays no slot
abbrev pub effect_by : Seed → Standing → List Member → Inbound → Effect
effect_by seed now members (good packet) = effect_of seed now members None packet
effect_by seed now members (wrong bad) = bad_effect bad

-- what it owes its sender, by the journal before it
abbrev pub owed_to_sender : Seed → List Record → List Member → Inbound → List ServerPacket
owed_to_sender seed journal members inbound =
    let effect = effect_by seed (standing seed journal) members inbound in
    owed seed (standing seed journal) (standing seed (journal ++ effect.records)) effect true
    (member_after effect true None)

-- the member that the session then is
abbrev pub sender_after : Seed → List Record → List Member → Inbound → Option Member
sender_after seed journal members inbound =
    member_after (effect_by seed (standing seed journal) members inbound) true None

abbrev pub AtMostOneForStrangers : List ServerPacket → Type 0
AtMostOneForStrangers [] = Unit {0}
AtMostOneForStrangers (p ∷ []) = IsTrue (is_for_strangers p)
AtMostOneForStrangers (p ∷ q ∷ ps) = ⊥

-- who plays no slot yet is told of a refusal, of names or of what was no packet, or nothing; who plays one now is told so, its whole view, and unless it wants no text that it joined
abbrev pub IsAnswerToStranger : Seed → List Record → Option Member → List ServerPacket → Type 0
IsAnswerToStranger seed journal None packets = AtMostOneForStrangers packets
IsAnswerToStranger seed journal (Some m) packets =
    packets ≡ connected (connected_of seed (standing seed journal) m)
    ∷ items_from 0 (view seed m.mask m.team m.slot journal)
    ++ heard_by seed
    (to_team m.team (joined m.team m.slot m.tags (name_of seed m.team m.slot)) ∷ []) true (Some m)

-- what a session sends that plays no slot owes it such an answer, and records nothing
pub record StrangerIsAnswered (seed : Seed) (journal : List Record) (members : List Member)
    (inbound : Inbound) : Type 0 where
  pub answer : IsAnswerToStranger seed journal (sender_after seed journal members inbound)
      (owed_to_sender seed journal members inbound)
  pub records : (effect_by seed (standing seed journal) members inbound).records ≡ []

abbrev pub StrangersAreAnswered : Type 0
StrangersAreAnswered =
    (seed : Seed) (journal : List Record) (members : List Member) (inbound : Inbound)
    → StrangerIsAnswered seed journal members inbound

-- what others do owes it nothing
abbrev pub StrangersHearNoOthers : Type 0
StrangersHearNoOthers =
    (seed : Seed) (before later : Standing) (effect : Effect)
    → owed seed before later effect false (member_after effect false None) ≡ []
