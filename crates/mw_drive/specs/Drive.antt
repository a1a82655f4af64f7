-- What a script's commands put, and the life of the room that they lead to, where memory and the
-- disk don't fail.
use Rattle.std.specs.Prelude.{ℕ, Bool, true, false, not, List, [], ◌∷◌, ◌++◌, Option, Some, None, codes, decimal, flat_map, map, is_some, if◌then◌else◌}
use Rattle.std.specs.List.{list_any}
use Rattle.mw_protocol.specs.Connecting.{Member}
use Rattle.mw_protocol.specs.Lives.{Life, Call, happens, Reply, opens as opened_as, done, messages, gone as was_gone, overrun as was_overrun, stopped, memory, Step, acts, crashes as crash_step, fine, reply_to, life_after, life_anew}
use Rattle.mw_protocol.specs.Lives.{commits as commit_call, takes as take_call}
use Rattle.mw_protocol.specs.Packets.{Inbound, good, wrong}
use Rattle.mw_protocol.specs.Rooms.{Room, Message, Event, opened, sent, failed, lost, text_of, session_in, member_in, untaken_of}
use Rattle.mw_script.specs.Commands.{Command, opens, sends, takes, loses, commits, crashes}

-- ---- what is put

pub data Put : Type 0 where
  -- a session isn't open
  gone : ℕ → Put
  -- a session was owed more than it may keep
  overrun : ℕ → Put
  -- a session, which plays this slot, or none yet, takes a message
  message : ℕ → Option Member → Message → Put

-- a session's message on a line of its own, after the session's number
abbrev pub message_line : ℕ → List ℕ → List ℕ
message_line session text = decimal session ++ codes " " ++ text ++ codes "\n"

abbrev pub gone_line : ℕ → List ℕ
gone_line session = decimal session ++ codes " gone\n"

abbrev pub overrun_line : ℕ → List ℕ
overrun_line session = decimal session ++ codes " overrun\n"

abbrev pub put_line : Put → List ℕ
put_line (gone session) = gone_line session
put_line (overrun session) = overrun_line session
put_line (message session member m) = message_line session (text_of m)

-- the text of what is put: its lines
abbrev pub text_put : List Put → List ℕ
text_put ps = flat_map put_line ps

-- ---- calls

-- the call of an element of a session's message
abbrev pub event_of : ℕ → Inbound → Event
event_of session (good packet) = sent session packet
event_of session (wrong bad) = failed session bad

abbrev pub call_for : ℕ → Inbound → Call
call_for session i = happens (event_of session i)

-- the calls of a command; a crash is none
abbrev pub calls_of : Command → List Call
calls_of (opens time) = happens (opened time) ∷ []
calls_of (sends session is) = map (call_for session) is
calls_of (takes session) = take_call session ∷ []
calls_of (loses session) = happens (lost session) ∷ []
calls_of commits = commit_call ∷ []
calls_of crashes = []

-- the session that a command names, if it names one
abbrev pub named : Command → Option ℕ
named (opens time) = None
named (sends session is) = Some session
named (takes session) = Some session
named (loses session) = Some session
named commits = None
named crashes = None

abbrev pub is_absent_in : Room → Option ℕ → Bool
is_absent_in room None = false
is_absent_in room (Some session) = not (is_some (session_in room.sessions session))

-- it names a session that isn't open
abbrev pub is_absent : Life → Command → Bool
is_absent life c = is_absent_in life.room (named c)

-- a session that isn't open makes no call
abbrev pub calls : Life → Command → List Call
calls life c = if is_absent life c then [] else calls_of c

-- ---- calls one after another

abbrev pub life_through : Life → List Call → Life
life_through life [] = life
life_through life (c ∷ cs) = life_through (life_after life c fine) cs

abbrev pub replies : Life → List Call → List Reply
replies life [] = []
replies life (c ∷ cs) = reply_to life c fine ∷ replies (life_after life c fine) cs

abbrev pub is_overrun : Reply → Bool
is_overrun (opened_as session) = false
is_overrun done = false
is_overrun (messages texts) = false
is_overrun was_gone = false
is_overrun was_overrun = true
is_overrun (stopped cause) = false
is_overrun memory = false

abbrev pub is_stopped : Reply → Bool
is_stopped (opened_as session) = false
is_stopped done = false
is_stopped (messages texts) = false
is_stopped was_gone = false
is_stopped was_overrun = false
is_stopped (stopped cause) = true
is_stopped memory = false

-- the texts of a reply, if it gives messages
abbrev pub texts_in : Reply → Option (List (List ℕ))
texts_in (opened_as session) = None
texts_in done = None
texts_in (messages texts) = Some texts
texts_in was_gone = None
texts_in was_overrun = None
texts_in (stopped cause) = None
texts_in memory = None

-- whether one of the calls is on a session that was owed more than it may keep
abbrev pub meet_overrun : Life → List Call → Bool
meet_overrun life cs = list_any is_overrun (replies life cs)

-- whether the room stops at one of them
abbrev pub stop : Life → List Call → Bool
stop life cs = list_any is_stopped (replies life cs)

-- ---- commands

-- what is told of the session that a command names
abbrev pub told_of : (ℕ → Put) → Option ℕ → List Put
told_of put None = []
told_of put (Some session) = put session ∷ []

-- the messages that a session takes
abbrev pub taken_by : Room → ℕ → List Put
taken_by room session =
    map (message session (member_in room.sessions session))
    (untaken_of (session_in room.sessions session))

abbrev pub taken_from : Room → Command → List Put
taken_from room (opens time) = []
taken_from room (sends session is) = []
taken_from room (takes session) = taken_by room session
taken_from room (loses session) = []
taken_from room commits = []
taken_from room crashes = []

-- what a command puts: that its session isn't open; that a call of it met a session that was owed
-- more than it may keep; or the messages that are taken
abbrev pub puts : Life → Command → List Put
puts life c =
    if is_absent life c then told_of gone (named c)
    else (if meet_overrun life (calls_of c) then told_of overrun (named c)
    else taken_from life.room c)

-- whether the journal is full, or the room has had 2^63 calls, before a command is done
abbrev pub is_full : Life → Command → Bool
is_full life c = stop life (calls life c)

-- a crash leaves what is committed, and the journal's place
abbrev pub life_recovered : Life → Life
life_recovered life = life_anew life 0 life.place

-- the life after a command
abbrev pub after : Life → Command → Life
after life (opens time) = life_through life (calls life (opens time))
after life (sends session is) = life_through life (calls life (sends session is))
after life (takes session) = life_through life (calls life (takes session))
after life (loses session) = life_through life (calls life (loses session))
after life commits = life_through life (calls life commits)
after life crashes = life_recovered life

-- ---- scripts

-- what is put, the life after the last command, and whether a command could not be done for a full
-- journal: then that one is the first that isn't
pub record Run : Type 0 where
  pub puts : List Put
  pub life : Life
  pub full : Bool

abbrev pub after_puts : List Put → Run → Run
after_puts ps r = record { puts = ps ++ r.puts; life = r.life; full = r.full }

abbrev pub run : Life → List Command → Run
run life [] = record { puts = []; life = life; full = false }
run life (c ∷ cs) =
    if is_full life c then record { puts = []; life = life; full = true }
    else after_puts (puts life c) (run (after life c) cs)

-- what a script's commands print
abbrev pub drive_text : Life → List Command → List ℕ
drive_text life cs = text_put (run life cs).puts

-- ---- the same as steps of a life

abbrev pub step_of : Call → Step
step_of c = acts c fine

abbrev pub steps_of : Life → Command → List Step
steps_of life (opens time) = map step_of (calls life (opens time))
steps_of life (sends session is) = map step_of (calls life (sends session is))
steps_of life (takes session) = map step_of (calls life (takes session))
steps_of life (loses session) = map step_of (calls life (loses session))
steps_of life commits = map step_of (calls life commits)
steps_of life crashes = crash_step 0 life.place ∷ []

abbrev pub all_steps : Life → List Command → List Step
all_steps life [] = []
all_steps life (c ∷ cs) =
    if is_full life c then [] else steps_of life c ++ all_steps (after life c) cs

-- ---- texts that are taken

-- messages with these texts, each on a line of its own
abbrev pub message_lines : ℕ → List (List ℕ) → List ℕ
message_lines session texts = flat_map (message_line session) texts

-- ---- scripts without a crash

abbrev pub is_crash : Command → Bool
is_crash (opens time) = false
is_crash (sends session is) = false
is_crash (takes session) = false
is_crash (loses session) = false
is_crash commits = false
is_crash crashes = true
