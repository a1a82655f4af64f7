-- What an event leaves of a room's sessions, by what it owes to each.
use Rattle.std.specs.Prelude.{◌≡◌, ℕ, ◌++◌, ◌∷◌, [], List, Bool, map, length, if◌then◌else◌}
use Rattle.mw_protocol.specs.Messages.{ServerPacket}
use Rattle.mw_protocol.specs.Records.{Record}
use Rattle.mw_protocol.specs.Rooms.{Session, Room, Event, opened, sent, failed, lost, told, with_member, without, new_session, next}
use Rattle.mw_laws.specs.Turns.{member_then, owed_by}

-- the sessions that are open before and after an event
abbrev pub staying : Room → Event → List Session
staying room (opened time) = room.sessions
staying room (sent sender packet) = room.sessions
staying room (failed sender bad) = room.sessions
staying room (lost sender) = without sender room.sessions

abbrev pub newcomers : Room → Event → List Session
newcomers room (opened time) = new_session room time ∷ []
newcomers room (sent sender packet) = []
newcomers room (failed sender bad) = []
newcomers room (lost sender) = []

-- it is the member that the event makes it, and owed a message of what the event owes it, which carries the journal's length
abbrev pub session_then : Room → Event → Session → Session
session_then room event s =
    told (owed_by room event s) (length (next room event).journal)
    (with_member (member_then room event s) s)

abbrev pub EventsTell : Type 0
EventsTell =
    (room : Room) (event : Event)
    → (next room event).sessions
    ≡ map (session_then room event) (staying room event) ++ newcomers room event

-- ---- one packet alone

-- the room with more records
abbrev pub recording_more : List Record → Room → Room
recording_more records room =
    record {
      seed = room.seed;
      journal = room.journal ++ records;
      opened = room.opened;
      sessions = room.sessions;
    }

abbrev pub told_if : (Session → Bool) → ServerPacket → ℕ → Session → Session
told_if who packet length s = if who s then told (packet ∷ []) length s else s

-- the room as it is, but that some of its sessions are told one packet, in a message that carries the journal's length
abbrev pub telling_where : (Session → Bool) → ServerPacket → Room → Room
telling_where who packet room =
    record {
      seed = room.seed;
      journal = room.journal;
      opened = room.opened;
      sessions = map (told_if who packet (length room.journal)) room.sessions;
    }
