-- The rooms that lists of turns come to, and what one event owes.
use Rattle.std.specs.Prelude.{ℕ, ◌==◌, ◌∷◌, [], List, Bool, Option, false}
use Rattle.mw_model.specs.Seed.{Seed}
use Rattle.mw_protocol.specs.Connecting.{Member}
use Rattle.mw_protocol.specs.Messages.{ServerPacket}
use Rattle.mw_protocol.specs.Owed.{owed}
use Rattle.mw_protocol.specs.Rooms.{Session, Room, Event, opened, sent, failed, lost, effect_in, member_after, next, taken, empty_room}
use Rattle.mw_protocol.specs.Standing.{Standing, standing}

pub data Turn : Type 0 where
  happens : Event → Turn
  -- the session of a number takes its messages
  takes : ℕ → Turn

abbrev pub after : Room → Turn → Room
after room (happens event) = next room event
after room (takes number) = taken room number

-- the room once all of them came, one after another
abbrev pub after_all : Room → List Turn → Room
after_all room [] = room
after_all room (t ∷ ts) = after_all (after room t) ts

-- what they make of the empty room of a seed
abbrev pub room_after : Seed → List Turn → Room
room_after seed turns = after_all (empty_room seed) turns

-- what the journal of a room comes to
abbrev pub now : Room → Standing
now room = standing room.seed room.journal

-- ---- one event

-- whether the session of a number sent what the event is of
abbrev pub is_of : Event → ℕ → Bool
is_of (opened time) number = false
is_of (sent sender packet) number = number == sender
is_of (failed sender bad) number = number == sender
is_of (lost sender) number = number == sender

-- the member that a session is after an event
abbrev pub member_then : Room → Event → Session → Option Member
member_then room event s = member_after (effect_in room event) (is_of event s.number) s.member

-- the packets that an event owes to a session that is open before and after it
abbrev pub owed_by : Room → Event → Session → List ServerPacket
owed_by room event s =
    owed room.seed (now room) (now (next room event)) (effect_in room event) (is_of event s.number)
    (member_then room event s)
