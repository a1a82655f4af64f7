-- A room that was served, and how that ended.
use Rattle.std.specs.Prelude.{◌≡◌, ◌⊎◌, ◌++◌, ◌∷◌, ℕ, List, [], Bool, true, false, Option, Some, None, Result, Ok, Err}
use Rattle.mw_model.specs.Seed.{Seed}
use Rattle.mw_protocol.specs.Lives.{Luck, new_life}
use Rattle.mw_protocol.specs.Records.{Record}
use Rattle.mw_protocol.specs.Spelled.{records_bytes}
use Rattle.mw_journal.specs.Image.{Stands}
use Rattle.mw_link.specs.declared.link.Heard.{Heard}
use Rattle.mw_keep.specs.Left.{IsLeft}
use Rattle.mw_keep.specs.Standing.{Began, MayReply, Replied, lived}
use Rattle.mw_keep.specs.Views.{cause_view}
use Rattle.mw_keep.specs.declared.call.Call.{Call}
use Rattle.mw_keep.specs.declared.reply.Reply.{Reply}
use Rattle.mw_keep.specs.declared.reply.StopCause.{StopCause}
use Rattle.mw_keep.specs.declared.kept.Origin.{Origin}
use Rattle.mw_session.specs.Rooms.{OneHistory}
use Rattle.mw_session.specs.declared.served.Served.{Served}
use Rattle.mw_drive.specs.Calls.{error_for}
use Rattle.mw_drive.specs.Ends.{IsForeign}
use Rattle.mw_drive.specs.declared.error.DriveError.{DriveError}
use Rattle.mw_drive.specs.declared.error.DriveError.TheVariants.{Fault, Memory, Journal}
use Rattle.mw_drive.specs.declared.error.JournalRefusal.{JournalRefusal}

-- how a served room ends: where it has stopped, by that cause; else by its gate's failure, and else
-- by want of memory
abbrev pub end_without : Bool → Bool → ℕ → Result ℕ DriveError
end_without true memory accepted = Err Fault
end_without false true accepted = Err Memory
end_without false false accepted = Ok accepted

abbrev pub end_of : Option StopCause → Bool → Bool → ℕ → Result ℕ DriveError
end_of (Some cause) failed memory accepted = Err (error_for (cause_view cause))
end_of None failed memory accepted = end_without failed memory accepted

-- the gate wasn't made ready, and all isn't done; or it was made ready once, at this address, and this
-- was so before
abbrev pub ListensAfter : Type 0 → Type 0 → List (List ℕ) → List (List ℕ) → List ℕ → Type 0
ListensAfter this all_done old new at =
    ((new ≡ old) × (all_done → ⊥)) ⊎ ((new ≡ old ++ at ∷ []) × this)

-- the journal was found to hold the records of a room
abbrev pub Finds : (List Record → ℕ → Type 0) → Type 0
Finds found = (journal : List Record) × (place : ℕ) × found journal place

-- no room was served: what a crash may leave is as settled as it was; what is no journal of the
-- seed's was only read
pub record IsUnserved {A : Type 0} (refuses : JournalRefusal → Type 0)
    (settled only_read : Type 0) (served : List A) (error : DriveError) : Type 0 where
  pub none : served ≡ []
  pub as_settled : settled
  pub read : IsForeign error → only_read
  pub cause : (error ≡ Fault) ⊎ (error ≡ Memory)
      ⊎ ((refusal : JournalRefusal) × (error ≡ Journal refusal) × refuses refusal)

module _ {T D : Type 0} (heard_by : T → List Heard) (sent_by : T → List (List ℕ)) (faults : T → ℕ)
    (opened : T → ℕ) (is_shut : T → Bool) (may_leave : D → List ℕ → Type 0)
    (found : List Record → ℕ → Type 0) (images : List ℕ → Type 0) (digest : List ℕ) (seed : Seed)
  where
    -- the links were served in one life of the room of the records that the journal was found to hold:
    -- all calls, with some luck each, have one history, and what a crash may leave is settled for the
    -- life that they led to
    pub record IsHosted (served : List (List (Served T))) (memory : Bool)
        (stopped : Option StopCause) : Type 0 where
      pub journal : List Record
      pub place : ℕ
      pub is_found : found journal place
      pub origin : Origin D
      pub began : Began may_leave digest seed journal place origin
      pub log : List (Call × Reply)
      pub lucks : List Luck
      pub replied : Replied (new_life seed journal place) log lucks
      pub history : OneHistory heard_by sent_by faults opened is_shut (MayReply may_leave)
          (Some origin) log served memory stopped
      pub settled : IsLeft images digest (lived (new_life seed journal place) log lucks)

    -- so it was to the end, and whatever a crash leaves stands for the whole journal of that life
    pub record HostsToEnd (served : List (List (Served T))) : Type 0 where
      pub hosted : IsHosted served false None
      pub stands : (c : List ℕ) → images c
          → Stands c digest (records_bytes
          (lived (new_life seed hosted.journal hosted.place) hosted.log hosted.lucks).room.journal)

    -- or it ended by a room that has stopped, by the gate's failure, or by want of memory
    pub record HostsShort (served : List (List (Served T))) (error : DriveError) : Type 0 where
      pub stopped : Option StopCause
      pub failed : Bool
      pub memory : Bool
      pub accepted : ℕ
      pub hosted : IsHosted served memory stopped
      pub is_end : end_of stopped failed memory accepted ≡ Err error
