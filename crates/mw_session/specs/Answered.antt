-- What a session's calls were answered: its messages, and its end.
use Rattle.std.specs.Prelude.{◌≡◌, ℕ, List, [], ◌∷◌, ◌++◌, map, Option, None, Some}
use Rattle.mw_protocol.specs.Lives as plain
use Rattle.mw_keep.specs.Views.{call_view}
use Rattle.mw_keep.specs.declared.call.Call.{Call}
use Rattle.mw_keep.specs.declared.call.Call.TheVariants.{Open, Packet, Bad, Lost, Commit, Take}
use Rattle.mw_keep.specs.declared.reply.Reply.{Reply}
use Rattle.mw_keep.specs.declared.reply.Reply.TheVariants.{Opened, Done, Messages, Gone, Overrun, Stopped, Memory}
use Rattle.mw_session.specs.declared.ended.Ended.{Ended}
use Rattle.mw_session.specs.declared.ended.Ended.TheVariants as Ends

-- the end of a session that is answered so, if it is one
abbrev pub end_by : Reply → Option Ended
end_by (Opened session) = None
end_by Done = None
end_by (Messages texts) = None
end_by Gone = Some Ends.Gone
end_by Overrun = Some Ends.Overrun
end_by (Stopped cause) = Some (Ends.Stopped cause)
end_by Memory = Some Ends.Memory

-- the messages that are answered
abbrev pub texts_of : Reply → List (List ℕ)
texts_of (Opened session) = []
texts_of Done = []
texts_of (Messages texts) = texts
texts_of Gone = []
texts_of Overrun = []
texts_of (Stopped cause) = []
texts_of Memory = []

-- the messages that a take was answered
abbrev pub taken : Call → Reply → List (List ℕ)
taken (Open time) reply = []
taken (Packet session packet) reply = []
taken (Bad session bad) reply = []
taken (Lost session) reply = []
taken Commit reply = []
taken (Take session) reply = texts_of reply

-- the messages that the takes of these calls were answered
abbrev pub taken_by : List (Call × Reply) → List (List ℕ)
taken_by [] = []
taken_by (x ∷ xs) = taken x.0 x.1 ++ taken_by xs

-- the calls without their replies, as plain data
abbrev pub calls_of : List (Call × Reply) → List plain.Call
calls_of xs = map (λ x. call_view x.0) xs

-- none of these ends the session
abbrev pub NoneEnds : List (Call × Reply) → Type 0
NoneEnds [] = Unit {0}
NoneEnds (x ∷ xs) = (end_by x.1 ≡ None) × NoneEnds xs

-- the last of these ends it so, and none before
abbrev pub LastEnds : Ended → List (Call × Reply) → Type 0
LastEnds e [] = ⊥
LastEnds e (x ∷ []) = end_by x.1 ≡ Some e
LastEnds e (x ∷ y ∷ ys) = (end_by x.1 ≡ None) × LastEnds e (y ∷ ys)
