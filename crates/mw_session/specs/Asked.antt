-- Which calls a session asks for, by what it heard.
use Rattle.std.specs.Prelude.{ℕ, ◌≤◌, List, [], ◌∷◌, ◌++◌, map, length, nat_lt, if◌then◌else◌}
use Rattle.mw_protocol.specs.Lives.{Call, happens, takes}
use Rattle.mw_protocol.specs.Packets.{Inbound, good, wrong}
use Rattle.mw_protocol.specs.Rooms.{sent, failed}
use Rattle.mw_packets_in.specs.PacketsOf.{packets_of}
use Rattle.mw_link.specs.declared.link.Heard.{Heard}
use Rattle.mw_link.specs.declared.link.Heard.TheVariants.{Words, Binary, NotYet, End}

-- a text of more bytes ends its session
abbrev pub limit : ℕ
limit = 524288

-- the call of an element of a session's message
abbrev pub call_for : ℕ → Inbound → Call
call_for session (good packet) = happens (sent session packet)
call_for session (wrong bad) = happens (failed session bad)

-- the calls of a session's message, in order
unfoldable pub asks : ℕ → List ℕ → List Call
asks session text = map (call_for session) (packets_of text)

-- a text that is no JSON
abbrev pub no_json : List ℕ
no_json = []

-- the calls that what was heard asks for: those of a text that isn't too long; a message that is no
-- text counts as one that is no JSON
abbrev pub asked_by : ℕ → Heard → List Call
asked_by session (Words text) = if nat_lt limit (length text) then [] else asks session text
asked_by session Binary = asks session no_json
asked_by session NotYet = []
asked_by session End = []

-- turn by turn: a take, and then what was heard
abbrev pub turns : ℕ → List Heard → List Call
turns session [] = []
turns session (h ∷ hs) = (takes session ∷ asked_by session h) ++ turns session hs

-- the session goes on after it
abbrev pub GoesOn : Heard → Type 0
GoesOn (Words text) = length text ≤ limit
GoesOn Binary = Unit {0}
GoesOn NotYet = Unit {0}
GoesOn End = ⊥

abbrev pub AllGoOn : List Heard → Type 0
AllGoOn [] = Unit {0}
AllGoOn (h ∷ hs) = GoesOn h × AllGoOn hs
