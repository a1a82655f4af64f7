-- Which calls were answered that the room has stopped.
use Rattle.std.specs.Prelude.{ℕ, List, [], ◌∷◌, Bool, true, false, Option, None, Some}
use Rattle.std.specs.Option.{option_or}
use Rattle.mw_keep.specs.declared.call.Call.{Call}
use Rattle.mw_keep.specs.declared.reply.Reply.{Reply}
use Rattle.mw_keep.specs.declared.reply.Reply.TheVariants.{Opened, Done, Messages, Gone, Overrun, Stopped, Memory}
use Rattle.mw_keep.specs.declared.reply.StopCause.{StopCause}
use Rattle.mw_session.specs.declared.ended.Ended.{Ended}
use Rattle.mw_session.specs.declared.ended.Ended.TheVariants as Ends

-- the cause of a reply that the room has stopped
abbrev pub stop_by : Reply → Option StopCause
stop_by (Opened session) = None
stop_by Done = None
stop_by (Messages texts) = None
stop_by Gone = None
stop_by Overrun = None
stop_by (Stopped cause) = Some cause
stop_by Memory = None

-- whether a reply to a Commit leaves something pending that memory was wanting for
abbrev pub lacks_by : Reply → Bool
lacks_by (Opened session) = true
lacks_by Done = false
lacks_by (Messages texts) = true
lacks_by Gone = true
lacks_by Overrun = true
lacks_by (Stopped cause) = false
lacks_by Memory = true

-- the cause of the first of these that was so answered, if one was
abbrev pub stop_in : List (Call × Reply) → Option StopCause
stop_in [] = None
stop_in (x ∷ xs) = option_or (stop_by x.1) (stop_in xs)

-- the same of the calls of several passes
abbrev pub stop_among : List (ℕ × List (Call × Reply)) → Option StopCause
stop_among [] = None
stop_among (x ∷ xs) = option_or (stop_in x.1) (stop_among xs)

-- the cause of a session's end
abbrev pub stop_at : Ended → Option StopCause
stop_at Ends.Closed = None
stop_at Ends.LinkFault = None
stop_at Ends.Overrun = None
stop_at Ends.Gone = None
stop_at (Ends.TooLong bytes) = None
stop_at (Ends.Stopped cause) = Some cause
stop_at Ends.Memory = None
