-- What serving a recovered room came to.
use Rattle.std.specs.Prelude.{◌≡◌, ◌⊎◌, ◌<◌, ℕ, List, [], Bool, true, Option, Some, Result, Err}
use Rattle.mw_link.specs.declared.link.Heard.{Heard}
use Rattle.mw_keep.specs.Keeps.{kept_disk, origin_of}
use Rattle.mw_keep.specs.Standing.{HasLived, MayReply}
use Rattle.mw_keep.specs.declared.call.Call.{Call}
use Rattle.mw_keep.specs.declared.kept.KeptRoom.{KeptRoom}
use Rattle.mw_keep.specs.declared.reply.Reply.{Reply}
use Rattle.mw_keep.specs.declared.reply.StopCause.{StopCause}
use Rattle.mw_session.specs.Rooms.{count_all, IsFull, OneHistory}
use Rattle.mw_session.specs.declared.served.Served.{Served}
use Rattle.mw_drive.specs.declared.error.DriveError.{DriveError}
use Rattle.mw_drive.specs.declared.error.DriveError.TheVariants.{Fault, Memory}
use Rattle.mw_serve.specs.Hosted.{end_of}

-- the gate couldn't listen, or memory was wanting before any link was accepted: the room's disk is as
-- it was
abbrev pub NeverBegan : {A : Type 0} → List A → ℕ → Result ℕ DriveError → Type 0
NeverBegan served gate_faults outcome =
    (served ≡ []) × (((outcome ≡ Err Fault) × (0 < gate_faults)) ⊎ (outcome ≡ Err Memory))

module _ {T D : Type 0} (heard_by : T → List Heard) (sent_by : T → List (List ℕ)) (faults : T → ℕ)
    (opened : T → ℕ) (is_shut : T → Bool) (may_leave : D → List ℕ → Type 0)
    (told : D → Option (List ℕ)) (disk_faults : D → ℕ) where
  -- links were served, in a room that went on from this one
  pub record WentOn (accept : Option ℕ) (room : KeptRoom D) (disk : D)
      (served : List (List (Served T))) (gate_faults : ℕ) (left : Option (List T)) (ended : Bool)
      (outcome : Result ℕ DriveError)
      : Type 0 where
    pub last : KeptRoom D
    pub disk_is : disk ≡ kept_disk last
    pub goes_on : origin_of last ≡ origin_of room
    pub log : List (Call × Reply)
    pub lived : HasLived may_leave told disk_faults last log
    pub stopped : Option StopCause
    pub failed : Bool
    pub memory : Bool
    pub history : OneHistory heard_by sent_by faults opened is_shut (MayReply may_leave)
        (Some (origin_of room)) log served memory stopped
    pub is_end : outcome ≡ end_of stopped failed memory (count_all served)
    pub gate : failed ≡ true → 0 < gate_faults
    pub full : IsFull accept failed memory stopped (count_all served) left ended

  abbrev pub IsRun : Option ℕ → KeptRoom D → D → List (List (Served T)) → ℕ → Option (List T)
      → Bool → Result ℕ DriveError → Type 0
  IsRun accept room disk served gate_faults left ended outcome =
      ((disk ≡ kept_disk room) × NeverBegan served gate_faults outcome)
      ⊎ WentOn accept room disk served gate_faults left ended outcome
