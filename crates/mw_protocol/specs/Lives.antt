-- The life of a room that is kept in a journal: what each call answers and leaves, and what a crash leaves of it.
use Rattle.std.specs.Prelude.{ℕ, ◌+◌, ◌^◌, ◌&&◌, ◌∷◌, [], List, Bool, true, false, not, Option, Some, None, map, length, take, drop, nat_le, nat_lt, if◌then◌else◌}
use Rattle.mw_model.specs.Seed.{Seed}
use Rattle.mw_protocol.specs.Records.{Record}
use Rattle.mw_protocol.specs.Rooms.{Room, Session, Message, Event, opened, sent, failed, lost, greatest, effect_in, next, replayed, session_in, taken, text_of, untaken_of}
use Rattle.mw_protocol.specs.Spelled.{records_bytes}

pub data Call : Type 0 where
  happens : Event → Call
  -- what is recorded is made safe
  commits : Call
  -- the session of a number takes its messages
  takes : ℕ → Call

-- why a room goes no further in its life
pub data StopCause : Type 0 where
  disk_fault : StopCause
  -- with its next batch the journal's file would have so many bytes
  journal_full : ℕ → StopCause
  -- it has had so many calls
  too_many_calls : ℕ → StopCause

pub data Reply : Type 0 where
  -- a session of this number is open
  opens : ℕ → Reply
  done : Reply
  -- the texts of the messages that a session takes
  messages : List (List ℕ) → Reply
  -- the session isn't open
  gone : Reply
  -- the session was owed more than it may keep
  overrun : Reply
  stopped : StopCause → Reply
  memory : Reply

-- the room; how many records its journal had at the last append that went well, or as the life began: these are committed; the place of the first gate that isn't open; why it goes no further, if so; and how many calls it has had
pub record Life : Type 0 where
  pub room : Room
  pub committed : ℕ
  pub place : ℕ
  pub stopped : Option StopCause
  pub calls : ℕ

-- a life begins with the journal that it finds, and nobody in its room
abbrev pub new_life : Seed → List Record → ℕ → Life
new_life seed journal place =
    record {
      room = replayed seed journal;
      committed = length journal;
      place = place;
      stopped = None;
      calls = 0;
    }

-- the records that are committed, and those that aren't yet
abbrev pub committed_of : Life → List Record
committed_of life = take life.committed life.room.journal

abbrev pub pending_of : Life → List Record
pending_of life = drop life.committed life.room.journal

-- the messages that the session of a number hasn't taken
abbrev pub untaken_in : Life → ℕ → List Message
untaken_in life number = untaken_of (session_in life.room.sessions number)

-- ---- refusals

abbrev pub sender_of : Event → Option ℕ
sender_of (opened time) = None
sender_of (sent number packet) = Some number
sender_of (failed number bad) = Some number
sender_of (lost number) = Some number

-- the session that a call names, if it names one
abbrev pub named_by : Call → Option ℕ
named_by (happens event) = sender_of event
named_by commits = None
named_by (takes number) = Some number

abbrev pub is_loss : Event → Bool
is_loss (opened time) = false
is_loss (sent number packet) = false
is_loss (failed number bad) = false
is_loss (lost number) = true

-- whether a session that was owed too much may make the call: it may end
abbrev pub ends : Call → Bool
ends (happens event) = is_loss event
ends commits = false
ends (takes number) = false

abbrev pub refused_to : Bool → Option Session → Option Reply
refused_to ending None = Some gone
refused_to ending (Some s) = if s.overrun && not ending then Some overrun else None

abbrev pub refused_in : Room → Bool → Option ℕ → Option Reply
refused_in room ending None = None
refused_in room ending (Some number) = refused_to ending (session_in room.sessions number)

-- that of a room that has stopped, or has had 2^63 calls
abbrev pub refused_by : Option StopCause → ℕ → Option Reply → Option Reply
refused_by (Some cause) calls otherwise = Some (stopped cause)
refused_by None calls otherwise =
    if nat_le (2 ^ 63) calls then Some (stopped (too_many_calls (2 ^ 63))) else otherwise

-- the refusal of a call, if it is refused: it then does nothing
abbrev pub refusal : Life → Call → Option Reply
refusal life call =
    refused_by life.stopped life.calls (refused_in life.room (ends call) (named_by call))

-- ---- appends

-- how the outside lets an event go: well, without the memory that it needs, or with a fault of the disk in its append
pub data Luck : Type 0 where
  fine : Luck
  lacking : Luck
  faulty : Luck

-- what comes of a call that isn't refused
pub data Outcome : Type 0 where
  passes : Outcome
  lacks : Outcome
  stops : StopCause → Outcome

-- the records that a call makes
abbrev pub records_of : Room → Call → List Record
records_of room (happens event) = (effect_in room event).records
records_of room commits = []
records_of room (takes number) = []

-- whether a message of a session that takes carries a length greater than what is committed
abbrev pub shows_pending : Life → ℕ → Bool
shows_pending life number = nat_lt life.committed (greatest (untaken_in life number))

-- what a call appends before it is done: all that is pending, at a commit, and where a session takes a message that shows some of it
abbrev pub append_of : Life → Call → List Record
append_of life (happens event) = []
append_of life commits = pending_of life
append_of life (takes number) = if shows_pending life number then pending_of life else []

abbrev pub appended_unless : Option Reply → List Record → List Record
appended_unless None records = records
appended_unless (Some reply) records = []

-- the records that a call appends as one batch
abbrev pub appended : Life → Call → List Record
appended life call = appended_unless (refusal life call) (append_of life call)

-- the length of the journal's file with a batch at its gate: the open gate, the length, the body and the next gate
abbrev pub length_with : ℕ → List Record → ℕ
length_with place records = place + 6 + length (records_bytes records)

-- more than 1,073,741,824 bytes are refused
abbrev pub or_full : ℕ → List Record → Outcome → Outcome
or_full place records otherwise =
    if nat_lt (2 ^ 30) (length_with place records)
    then stops (journal_full (length_with place records)) else otherwise

-- where there is nothing to append, neither memory nor the disk is asked
abbrev pub append : ℕ → Luck → List Record → Outcome
append place luck [] = passes
append place lacking (r ∷ rs) = lacks
append place fine (r ∷ rs) = or_full place (r ∷ rs) passes
append place faulty (r ∷ rs) = or_full place (r ∷ rs) (stops disk_fault)

-- an event asks for memory alone
abbrev pub planned : Luck → Outcome
planned fine = passes
planned lacking = lacks
planned faulty = passes

abbrev pub outcome : Life → Call → Luck → Outcome
outcome life (happens event) luck = planned luck
outcome life commits luck = append life.place luck (append_of life commits)
outcome life (takes number) luck = append life.place luck (append_of life (takes number))

-- ---- replies

abbrev pub answer_to : Room → Event → Reply
answer_to room (opened time) = opens (room.opened + 1)
answer_to room (sent number packet) = done
answer_to room (failed number bad) = done
answer_to room (lost number) = done

abbrev pub answer : Room → Call → Reply
answer room (happens event) = answer_to room event
answer room commits = done
answer room (takes number) = messages (map text_of (untaken_of (session_in room.sessions number)))

abbrev pub reply_of : Room → Call → Outcome → Reply
reply_of room call passes = answer room call
reply_of room call lacks = memory
reply_of room call (stops cause) = stopped cause

abbrev pub reply_unless : Option Reply → Reply → Reply
reply_unless None otherwise = otherwise
reply_unless (Some reply) otherwise = reply

-- what a call answers
abbrev pub reply_to : Life → Call → Luck → Reply
reply_to life call luck =
    reply_unless (refusal life call) (reply_of life.room call (outcome life call luck))

-- ---- what a call leaves

abbrev pub room_then : Room → Call → Room
room_then room (happens event) = next room event
room_then room commits = room
room_then room (takes number) = taken room number

-- the next gate stands behind a batch
abbrev pub place_then : ℕ → List Record → ℕ
place_then place [] = place
place_then place (r ∷ rs) = place + 5 + length (records_bytes (r ∷ rs))

-- an append leaves the whole journal committed
abbrev pub committed_then : Life → List Record → ℕ
committed_then life [] = life.committed
committed_then life (r ∷ rs) = length life.room.journal

abbrev pub life_of : Life → Call → Outcome → Life
life_of life call passes =
    record {
      room = room_then life.room call;
      committed = committed_then life (append_of life call);
      place = place_then life.place (append_of life call);
      stopped = life.stopped;
      calls = life.calls + 1;
    }
life_of life call lacks =
    record {
      room = life.room;
      committed = life.committed;
      place = life.place;
      stopped = life.stopped;
      calls = life.calls + 1;
    }
life_of life call (stops cause) =
    record {
      room = life.room;
      committed = life.committed;
      place = life.place;
      stopped = Some cause;
      calls = life.calls + 1;
    }

-- a refused call counts as one, and changes nothing
abbrev pub counted : Life → Life
counted life =
    record {
      room = life.room;
      committed = life.committed;
      place = life.place;
      stopped = life.stopped;
      calls = life.calls + 1;
    }

abbrev pub life_unless : Option Reply → Life → Life → Life
life_unless None life otherwise = otherwise
life_unless (Some reply) life otherwise = counted life

-- the life after a call
abbrev pub life_after : Life → Call → Luck → Life
life_after life call luck =
    life_unless (refusal life call) life (life_of life call (outcome life call luck))

-- ---- crashes

-- a crash leaves the committed records, and as many of the first pending ones as it may
abbrev pub left_by : Life → ℕ → List Record
left_by life more = take (life.committed + more) life.room.journal

-- the life after a crash, of whose journal the first gate that isn't open is at a place
abbrev pub life_anew : Life → ℕ → ℕ → Life
life_anew life more place = new_life life.room.seed (left_by life more) place

-- ---- runs

pub data Step : Type 0 where
  acts : Call → Luck → Step
  -- a crash that leaves so many pending records, and a life anew
  crashes : ℕ → ℕ → Step

abbrev pub after : Life → Step → Life
after life (acts call luck) = life_after life call luck
after life (crashes more place) = life_anew life more place

abbrev pub after_all : Life → List Step → Life
after_all life [] = life
after_all life (s ∷ ss) = after_all (after life s) ss

-- the life that a room made new comes to: its empty journal's gate is at 40
abbrev pub life_after_all : Seed → List Step → Life
life_after_all seed steps = after_all (new_life seed [] 40) steps
