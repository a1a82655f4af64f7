-- The room: what each event makes of it.
use Rattle.std.specs.Prelude.{ℕ, ◌+◌, ◌≤◌, ◌==◌, ◌||◌, ◌++◌, ◌∷◌, [], List, Bool, Option, Some, None, true, false, map, length, take, drop, max, nat_le, if◌then◌else◌}
use Rattle.mw_model.specs.Seed.{Seed}
use Rattle.mw_protocol.specs.Connecting.{Member}
use Rattle.mw_protocol.specs.Effect.{Effect, nothing}
use Rattle.mw_protocol.specs.Effects.{effect_of, bad_effect}
use Rattle.mw_protocol.specs.Entering.{parting}
use Rattle.mw_protocol.specs.Messages.{ServerPacket, room_info, message_text}
use Rattle.mw_protocol.specs.Owed.{owed}
use Rattle.mw_protocol.specs.Packets.{Packet, Bad}
use Rattle.mw_protocol.specs.Players.{room_info_of}
use Rattle.mw_protocol.specs.Records.{Record}
use Rattle.mw_protocol.specs.Standing.{Standing, standing}

-- its packets, and the journal's length that it carries
pub record Message : Type 0 where
  pub packets : List ServerPacket
  pub carries : ℕ

-- the slot that it plays, if it plays one; all messages owed to it, and how many of them are taken;
-- whether it was owed more than it may keep
pub record Session : Type 0 where
  pub number : ℕ
  pub member : Option Member
  pub owed : List Message
  pub taken : ℕ
  pub overrun : Bool

-- the sessions that are open, in the order in which they were opened, and how many ever were
pub record Room : Type 0 where
  pub seed : Seed
  pub journal : List Record
  pub opened : ℕ
  pub sessions : List Session

pub data Event : Type 0 where
  -- a session is opened at a time
  opened : ℕ → Event
  -- a session sends a packet
  sent : ℕ → Packet → Event
  -- a session sends what is no packet
  failed : ℕ → Bad → Event
  -- a session ends
  lost : ℕ → Event

-- ---- messages

abbrev pub text_of : Message → List ℕ
text_of m = message_text m.packets

-- the messages that the session hasn't taken
abbrev pub untaken : Session → List Message
untaken s = drop s.taken s.owed

-- no more are taken than owed
abbrev pub IsSound : Session → Type 0
IsSound s = s.taken ≤ length s.owed

abbrev pub AllSound : List Session → Type 0
AllSound [] = Unit {0}
AllSound (s ∷ ss) = IsSound s × AllSound ss

abbrev pub bytes_in : List (List ℕ) → ℕ
bytes_in [] = 0
bytes_in (text ∷ texts) = length text + bytes_in texts

-- 4,096 messages, or 16,777,216 bytes or more together: a session keeps no further one
abbrev pub is_full : List (List ℕ) → Bool
is_full texts = nat_le 4096 (length texts) || nat_le 16777216 (bytes_in texts)

-- the greatest length that one of the messages carries
abbrev pub greatest : List Message → ℕ
greatest [] = 0
greatest (m ∷ ms) = max m.carries (greatest ms)

abbrev pub with_message : Message → Session → Session
with_message m s =
    record {
      number = s.number;
      member = s.member;
      owed = s.owed ++ m ∷ [];
      taken = s.taken;
      overrun = s.overrun;
    }

-- what it hasn't taken is dropped
abbrev pub overrun_by : Session → Session
overrun_by s =
    record {
      number = s.number;
      member = s.member;
      owed = take s.taken s.owed;
      taken = s.taken;
      overrun = true;
    }

-- one message more, unless it was or now is owed too many
abbrev pub owing : Message → Session → Session
owing m s =
    if s.overrun then s
    else (if is_full (map text_of (untaken s)) then overrun_by s else with_message m s)

-- a message without packets isn't owed
abbrev pub told : List ServerPacket → ℕ → Session → Session
told [] length s = s
told (p ∷ ps) length s = owing record { packets = p ∷ ps; carries = length } s

-- ---- sessions by their numbers

abbrev pub session_in : List Session → ℕ → Option Session
session_in [] number = None
session_in (s ∷ ss) number = if s.number == number then Some s else session_in ss number

abbrev pub member_in : List Session → ℕ → Option Member
member_in [] number = None
member_in (s ∷ ss) number = if s.number == number then s.member else member_in ss number

abbrev pub or_more : Option Member → List Member → List Member
or_more None ms = ms
or_more (Some m) ms = m ∷ ms

-- those of the sessions that play a slot
abbrev pub members_in : List Session → List Member
members_in [] = []
members_in (s ∷ ss) = or_more s.member (members_in ss)

-- the sessions without the first of a number
abbrev pub without : ℕ → List Session → List Session
without number [] = []
without number (s ∷ ss) = if s.number == number then ss else s ∷ without number ss

-- ---- events

-- what an event records, answers and changes
abbrev pub effect_in : Room → Event → Effect
effect_in room (opened time) = nothing
effect_in room (sent number packet) =
    effect_of room.seed (standing room.seed room.journal) (members_in room.sessions)
    (member_in room.sessions number) packet
effect_in room (failed number bad) = bad_effect bad
effect_in room (lost number) = parting room.seed (member_in room.sessions number)

abbrev pub or_else : Option Member → Option Member → Option Member
or_else None member = member
or_else (Some new) member = Some new

-- the member that a session is after an effect
abbrev pub member_after : Effect → Bool → Option Member → Option Member
member_after effect sends member = if sends then or_else effect.member member else member

abbrev pub with_member : Option Member → Session → Session
with_member member s =
    record {
      number = s.number;
      member = member;
      owed = s.owed;
      taken = s.taken;
      overrun = s.overrun;
    }

-- a session after an effect of the sender's
abbrev pub session_after : Seed → Standing → Standing → ℕ → Effect → ℕ → Session → Session
session_after seed before after length effect sender s =
    let member = member_after effect (s.number == sender) s.member in
    told (owed seed before after effect (s.number == sender) member) length (with_member member s)

-- the room after an effect of the sender's
abbrev pub affected : Room → ℕ → Effect → Room
affected room sender effect =
    let journal = room.journal ++ effect.records in
    record {
      seed = room.seed;
      journal = journal;
      opened = room.opened;
      sessions = map
          (session_after room.seed (standing room.seed room.journal) (standing room.seed journal)
          (length journal) effect sender) room.sessions;
    }

-- a session that was just opened is owed RoomInfo
abbrev pub new_session : Room → ℕ → Session
new_session room time =
    told (room_info (room_info_of room.seed time) ∷ []) (length room.journal)
    record { number = room.opened + 1; member = None; owed = []; taken = 0; overrun = false }

-- a session has ended
abbrev pub closed : Room → ℕ → Room
closed room number =
    record {
      seed = room.seed;
      journal = room.journal;
      opened = room.opened;
      sessions = without number room.sessions;
    }

-- the room after an event
abbrev pub next : Room → Event → Room
next room (opened time) =
    record {
      seed = room.seed;
      journal = room.journal;
      opened = room.opened + 1;
      sessions = room.sessions ++ new_session room time ∷ [];
    }
next room (sent number packet) = affected room number (effect_in room (sent number packet))
next room (failed number bad) = affected room number (effect_in room (failed number bad))
next room (lost number) = affected (closed room number) number (effect_in room (lost number))

-- ---- taking

abbrev pub taken_all : Session → Session
taken_all s =
    record {
      number = s.number;
      member = s.member;
      owed = s.owed;
      taken = length s.owed;
      overrun = s.overrun;
    }

abbrev pub taken_among : ℕ → List Session → List Session
taken_among number [] = []
taken_among number (s ∷ ss) =
    if s.number == number then taken_all s ∷ ss else s ∷ taken_among number ss

-- the room once a session has taken its messages
abbrev pub taken : Room → ℕ → Room
taken room number =
    record {
      seed = room.seed;
      journal = room.journal;
      opened = room.opened;
      sessions = taken_among number room.sessions;
    }

-- the untaken messages of a session, if it is open
abbrev pub untaken_of : Option Session → List Message
untaken_of None = []
untaken_of (Some s) = untaken s

-- ---- rooms without sessions

-- the room of a journal, with nobody in it
abbrev pub replayed : Seed → List Record → Room
replayed seed journal = record { seed = seed; journal = journal; opened = 0; sessions = [] }

abbrev pub empty_room : Seed → Room
empty_room seed = replayed seed []
