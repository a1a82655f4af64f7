-- What a session over a link does: which calls it makes, for what it heard, what it sends, and why it ends.
use Rattle.std.specs.Prelude.{◌≡◌, ◌⊎◌, ℕ, ◌<◌, List, [], ◌∷◌, ◌++◌, length, Option, None, Some}
use mathlib.Core.List.{IsPrefix}
use Rattle.mw_protocol.specs.Lives as plain
use Rattle.mw_link.specs.declared.link.Heard.{Heard}
use Rattle.mw_link.specs.declared.link.Heard.TheVariants.{Words, End}
use Rattle.mw_keep.specs.declared.call.Call.{Call}
use Rattle.mw_keep.specs.declared.call.Call.TheVariants.{Open, Lost}
use Rattle.mw_keep.specs.declared.reply.Reply.{Reply}
use Rattle.mw_keep.specs.declared.reply.Reply.TheVariants.{Opened, Done, Messages, Gone, Overrun, Stopped, Memory}
use Rattle.mw_session.specs.declared.ended.Ended.{Ended}
use Rattle.mw_session.specs.declared.ended.Ended.TheVariants as Ends
use Rattle.mw_session.specs.Answered.{calls_of, taken_by, LastEnds, NoneEnds}
use Rattle.mw_session.specs.Asked.{limit, turns, AllGoOn}

-- whole turns: each call answered, and all that was taken sent
pub record Whole (session : ℕ) (calls : List (Call × Reply)) (heard : List Heard)
    (sent : List (List ℕ)) : Type 0 where
  pub asked : calls_of calls ≡ turns session heard
  pub go_on : NoneEnds calls
  pub heard_on : AllGoOn heard
  pub all_sent : sent ≡ taken_by calls

-- this was heard last, and what was heard before it goes on
abbrev pub EndsIn : List Heard → Heard → Type 0
EndsIn heard h = (front : List Heard) × (heard ≡ front ++ h ∷ []) × AllGoOn front

-- why a session ended, and what of it was then done; `rose` says that the link's count of faults rose
abbrev pub Why : ℕ → List (Call × Reply) → List Heard → List (List ℕ) → Type 0 → Ended → Type 0
Why session calls heard sent rose Ends.Closed =
    EndsIn heard End × (calls_of calls ≡ turns session heard) × NoneEnds calls
    × (sent ≡ taken_by calls)
Why session calls heard sent rose (Ends.TooLong bytes) =
    (text : List ℕ) × EndsIn heard (Words text) × (bytes ≡ length text) × (limit < bytes)
    × (calls_of calls ≡ turns session heard) × NoneEnds calls × (sent ≡ taken_by calls)
Why session calls heard sent rose Ends.LinkFault =
    rose × AllGoOn heard × (calls_of calls ≡ turns session heard ++ plain.takes session ∷ [])
    × NoneEnds calls
Why session calls heard sent rose Ends.Memory =
    AllGoOn heard × (NoneEnds calls ⊎ LastEnds Ends.Memory calls)
Why session calls heard sent rose Ends.Gone =
    AllGoOn heard × LastEnds Ends.Gone calls × (sent ≡ taken_by calls)
Why session calls heard sent rose Ends.Overrun =
    AllGoOn heard × LastEnds Ends.Overrun calls × (sent ≡ taken_by calls)
Why session calls heard sent rose (Ends.Stopped cause) =
    AllGoOn heard × LastEnds (Ends.Stopped cause) calls × (sent ≡ taken_by calls)

-- the calls of an open session up to the one at which it ended, for what was heard, in order, each
-- once; what it sent are the first of the messages that it took
pub record Talked (session : ℕ) (calls : List (Call × Reply)) (heard : List Heard)
    (sent : List (List ℕ)) (rose : Type 0) (ended : Ended) : Type 0 where
  pub asked : IsPrefix (calls_of calls) (turns session heard ++ plain.takes session ∷ [])
  pub first_sent : IsPrefix sent (taken_by calls)
  pub why : Why session calls heard sent rose ended

-- an ended session is lost by one call more, unless it is gone or the room has stopped
abbrev pub Closes : ℕ → Ended → List (Call × Reply) → Type 0
Closes session Ends.Gone calls = calls ≡ []
Closes session (Ends.Stopped cause) calls = calls ≡ []
Closes session Ends.Closed calls = (r : Reply) × (calls ≡ (Lost session, r) ∷ [])
Closes session Ends.LinkFault calls = (r : Reply) × (calls ≡ (Lost session, r) ∷ [])
Closes session Ends.Overrun calls = (r : Reply) × (calls ≡ (Lost session, r) ∷ [])
Closes session (Ends.TooLong bytes) calls = (r : Reply) × (calls ≡ (Lost session, r) ∷ [])
Closes session Ends.Memory calls = (r : Reply) × (calls ≡ (Lost session, r) ∷ [])

-- a session that wasn't opened ends by that answer
abbrev pub Unopened : Reply → Ended → Type 0
Unopened (Opened session) ended = ⊥
Unopened Done ended = ended ≡ Ends.Memory
Unopened (Messages texts) ended = ended ≡ Ends.Memory
Unopened Gone ended = ended ≡ Ends.Gone
Unopened Overrun ended = ended ≡ Ends.Overrun
Unopened (Stopped cause) ended = ended ≡ Ends.Stopped cause
Unopened Memory ended = ended ≡ Ends.Memory

-- all calls of a session that is opened at a time; where its Open wasn't answered by a number, that
-- is all
abbrev pub IsSession : ℕ → List (Call × Reply) → List Heard → List (List ℕ) → Type 0 → Option ℕ
    → Ended → Type 0
IsSession time calls heard sent rose None ended =
    (r : Reply) × (calls ≡ (Open time, r) ∷ []) × Unopened r ended × (heard ≡ []) × (sent ≡ [])
IsSession time calls heard sent rose (Some session) ended =
    (talk : List (Call × Reply)) × (close : List (Call × Reply))
    × (calls ≡ (Open time, Opened session) ∷ talk ++ close)
    × Talked session talk heard sent rose ended × Closes session ended close
