-- What each part of a session makes of a pass and of a link.
use Rattle.std.specs.Prelude.{◌≡◌, ◌⊎◌, ℕ, ◌<◌, ◌≤◌, List, [], ◌∷◌, ◌++◌, length, Option, None, Some}
use mathlib.Core.List.{IsPrefix}
use Rattle.mw_protocol.specs.Lives as plain
use Rattle.mw_lock.specs.Passes.{Known}
use Rattle.mw_link.specs.declared.link.Heard.{Heard}
use Rattle.mw_link.specs.declared.link.Heard.TheVariants.{Words, End}
use Rattle.mw_keep.specs.declared.call.Call.{Call}
use Rattle.mw_keep.specs.declared.call.Call.TheVariants.{Take}
use Rattle.mw_keep.specs.declared.reply.Reply.{Reply}
use Rattle.mw_keep.specs.declared.reply.StopCause.{StopCause}
use Rattle.mw_session.specs.declared.ended.Ended.{Ended}
use Rattle.mw_session.specs.declared.ended.Ended.TheVariants as Ends
use Rattle.mw_session.specs.Answered.{calls_of, end_by, taken_by, texts_of, LastEnds, NoneEnds}
use Rattle.mw_session.specs.Asked.{asked_by, limit, GoesOn}
use Rattle.mw_session.specs.Sessions.{Closes, IsSession, Talked, Whole}
use Rattle.mw_session.specs.Stops.{stop_in}

-- what a contract knows of a pass of a room's lock
abbrev pub RoomPass : Type 0 → Type 0
RoomPass B = Known Call Reply B

-- the pass made these calls, and is else as before, but for what it has seen
pub record Makes {B : Type 0} (v : RoomPass B) (calls : List (Call × Reply)) (w : RoomPass B)
    : Type 0 where
  pub own : w ≡ record v { seen = w.seen; own = v.own ++ calls }
  pub seen : IsPrefix v.seen w.seen

-- the call by which an ended session is lost, and whether it was answered that the room has stopped
abbrev pub ClosesBy : {B : Type 0} → ℕ → Ended → RoomPass B → Option StopCause → RoomPass B → Type 0
ClosesBy session e v stopped w =
    (calls : List (Call × Reply)) × Makes v calls w × Closes session e calls
    × (stop_in calls ≡ stopped)

-- the calls that were asked for, or the first of them up to the one at which the session ended, or
-- none for want of memory
abbrev pub Acts : {B : Type 0} → List plain.Call → RoomPass B → Option Ended → RoomPass B → Type 0
Acts asked v None w =
    (calls : List (Call × Reply)) × Makes v calls w × (calls_of calls ≡ asked)
    × NoneEnds calls × (taken_by calls ≡ [])
Acts asked v (Some e) w =
    (calls : List (Call × Reply)) × Makes v calls w × (taken_by calls ≡ [])
    × IsPrefix (calls_of calls) asked
    × (((calls ≡ []) × (e ≡ Ends.Memory)) ⊎ LastEnds e calls)

-- what was heard ends the session, before a call or by the answer of one
abbrev pub Stops : ℕ → Heard → List (Call × Reply) → Ended → Type 0
Stops session h calls e =
    IsPrefix (calls_of calls) (asked_by session h)
    × (((calls ≡ []) × ((h ≡ End) × (e ≡ Ends.Closed)))
    ⊎ (((calls ≡ []) × ((text : List ℕ) × (h ≡ Words text) × (limit < length text)
    × (e ≡ Ends.TooLong (length text))))
    ⊎ ((GoesOn h × (calls ≡ []) × (e ≡ Ends.Memory)) ⊎ (GoesOn h × LastEnds e calls))))

-- the calls for what was heard
abbrev pub Heeds : {B : Type 0} → ℕ → Heard → RoomPass B → Option Ended → RoomPass B → Type 0
Heeds session h v None w =
    (calls : List (Call × Reply)) × Makes v calls w × (calls_of calls ≡ asked_by session h)
    × NoneEnds calls × (taken_by calls ≡ []) × GoesOn h
Heeds session h v (Some e) w =
    (calls : List (Call × Reply)) × Makes v calls w × (taken_by calls ≡ [])
    × Stops session h calls e

module _ {L : Type 0} (heard_by : L → List Heard) (sent_by : L → List (List ℕ)) (faults : L → ℕ)
    (opened : L → ℕ) where
  -- over the link this was heard, and these texts were sent
  pub record Carries (old new : L) (heard : List Heard) (sent : List (List ℕ)) : Type 0 where
    pub hears : heard_by new ≡ heard_by old ++ heard
    pub sends : sent_by new ≡ sent_by old ++ sent
    pub later : faults old ≤ faults new
    pub time : opened new ≡ opened old

  -- the link failed, or memory ran out
  abbrev pub LinkEnds : L → L → Ended → Type 0
  LinkEnds old new e = ((e ≡ Ends.LinkFault) × (faults old < faults new)) ⊎ (e ≡ Ends.Memory)

  -- these texts were sent, or the first of them
  abbrev pub SendsAll : List (List ℕ) → L → Option Ended → L → Type 0
  SendsAll texts old None new = Carries old new [] texts
  SendsAll texts old (Some e) new =
      (sent : List (List ℕ)) × Carries old new [] sent × IsPrefix sent texts × LinkEnds old new e

  -- the messages were taken and sent
  abbrev pub TakesAll : {B : Type 0} → ℕ → RoomPass B → L → Option Ended → RoomPass B → L → Type 0
  TakesAll session v old None w new =
      (r : Reply) × Makes v ((Take session, r) ∷ []) w × (end_by r ≡ None)
      × Carries old new [] (texts_of r)
  TakesAll session v old (Some e) w new =
      (r : Reply) × Makes v ((Take session, r) ∷ []) w × (sent : List (List ℕ))
      × Carries old new [] sent × IsPrefix sent (texts_of r)
      × (((end_by r ≡ Some e) × (sent ≡ texts_of r)) ⊎ ((end_by r ≡ None) × LinkEnds old new e))

  -- a session's turn, or several: whole, or to its end
  abbrev pub Turned : {B : Type 0} → ℕ → RoomPass B → L → Option Ended → RoomPass B → L → Type 0
  Turned session v old None w new =
      (calls : List (Call × Reply)) × (heard : List Heard) × (sent : List (List ℕ))
      × Makes v calls w × Carries old new heard sent × Whole session calls heard sent
  Turned session v old (Some e) w new =
      (calls : List (Call × Reply)) × (heard : List Heard) × (sent : List (List ℕ))
      × Makes v calls w × Carries old new heard sent
      × Talked session calls heard sent (faults old < faults new) e

  -- a whole session
  abbrev pub Serves : {B : Type 0} → ℕ → RoomPass B → L → Option ℕ → Ended → RoomPass B → L
      → Type 0
  Serves time v old session ended w new =
      (calls : List (Call × Reply)) × (heard : List Heard) × (sent : List (List ℕ))
      × Makes v calls w × Carries old new heard sent
      × IsSession time calls heard sent (faults old < faults new) session ended

  -- the same, and whether one of its calls was answered that the room has stopped
  abbrev pub Runs : {B : Type 0} → ℕ → RoomPass B → L → Option ℕ → Ended → Option StopCause
      → RoomPass B → L → Type 0
  Runs time v old session ended stopped w new =
      (calls : List (Call × Reply)) × (heard : List Heard) × (sent : List (List ℕ))
      × Makes v calls w × Carries old new heard sent
      × IsSession time calls heard sent (faults old < faults new) session ended
      × (stop_in calls ≡ stopped)
