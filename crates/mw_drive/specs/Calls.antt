-- What the calls and the commands of a script come to in a kept room.
use Rattle.std.specs.Prelude.{◌≡◌, ◌<◌, ℕ, List, Bool, Option, Some, None, IsTrue, IsFalse}
use Rattle.mw_model.specs.Seed.{Seed}
use Rattle.mw_protocol.specs.Lives.{Life, Call, Reply, opens, done, messages, gone, overrun, stopped, memory, StopCause, disk_fault, journal_full, too_many_calls, Step, fine, reply_to, life_after, after_all}
use Rattle.mw_keep.specs.Keeps.{Keeps, kept_disk}
use Rattle.mw_keep.specs.declared.kept.KeptRoom.{KeptRoom}
use Rattle.mw_script.specs.Commands.{Command}
use Rattle.mw_drive.specs.Drive.{is_stopped, life_through, meet_overrun, stop, calls, is_full, after, puts, text_put}
use Rattle.mw_drive.specs.Left.{IsGoing}
use Rattle.mw_script.specs.declared.script.ScriptError.{ScriptError}
use Rattle.mw_script.specs.declared.script.ScriptError.TheVariants as script
use Rattle.mw_drive.specs.declared.error.DriveError.{DriveError}
use Rattle.mw_drive.specs.declared.error.DriveError.TheVariants.{Fault, Memory, Full, Journal, Script}

-- ---- errors

-- the error for why a room has stopped
abbrev pub error_for : StopCause → DriveError
error_for disk_fault = Fault
error_for (journal_full length) = Full
error_for (too_many_calls count) = Full

-- the error for a reply, if its call isn't done
abbrev pub failure : Reply → Option DriveError
failure (opens session) = None
failure done = None
failure (messages texts) = None
failure gone = None
failure overrun = None
failure (stopped cause) = Some (error_for cause)
failure memory = Some Memory

-- the error for one of the script
abbrev pub script_error : ScriptError → DriveError
script_error script.Memory = Memory
script_error (script.Refused line) = Script line

-- an error that isn't about the journal's bytes or the script's
abbrev pub IsOutside : DriveError → Type 0
IsOutside Fault = Unit {0}
IsOutside Memory = Unit {0}
IsOutside Full = Unit {0}
IsOutside (Journal refusal) = ⊥
IsOutside (Script line) = ⊥

-- ---- calls

-- a call was answered and done as where memory and the disk don't fail
pub record IsDone {D : Type 0} (may_leave : D → List ℕ → Type 0) (digest : List ℕ) (seed : Seed)
    (life : Life) (call : Call) (reply : Reply)
    (k : KeptRoom D)
    : Type 0 where
  pub replies : reply ≡ reply_to life call fine
  pub goes : IsFalse (is_stopped (reply_to life call fine))
  pub keeps : Keeps may_leave digest (life_after life call fine) k
  pub going : IsGoing seed (life_after life call fine) k

-- so were calls, of which some met a session that was owed more than it may keep
pub record AreDone {D : Type 0} (may_leave : D → List ℕ → Type 0) (digest : List ℕ) (seed : Seed)
    (life : Life) (cs : List Call) (met : Bool)
    (k : KeptRoom D)
    : Type 0 where
  pub meets : met ≡ meet_overrun life cs
  pub goes : IsFalse (stop life cs)
  pub keeps : Keeps may_leave digest (life_through life cs) k
  pub going : IsGoing seed (life_through life cs) k

-- a call, or one of several, wasn't done: the room is kept in some life that goes on from this one;
-- for a full journal only where the definition says so, for a fault where the disk's count rose
pub record HaveStopped {D : Type 0} (may_leave : D → List ℕ → Type 0) (faults : D → ℕ)
    (digest : List ℕ) (life : Life) (cs : List Call)
    (before : KeptRoom D) (error : DriveError) (k : KeptRoom D)
    : Type 0 where
  pub steps : List Step
  pub keeps : Keeps may_leave digest (after_all life steps) k
  pub full : error ≡ Full → IsTrue (stop life cs)
  pub fault : error ≡ Fault → faults (kept_disk before) < faults (kept_disk k)

-- ---- commands

-- a command was done, with this text
pub record IsPerformed {D : Type 0} (may_leave : D → List ℕ → Type 0) (digest : List ℕ)
    (seed : Seed) (life : Life) (c : Command) (text : List ℕ)
    (k : KeptRoom D)
    : Type 0 where
  pub is_text : text ≡ text_put (puts life c)
  pub whole : IsFalse (is_full life c)
  pub keeps : Keeps may_leave digest (after life c) k
  pub going : IsGoing seed (after life c) k

-- ---- whatever life the room is kept in

-- the call was done, with this reply
abbrev pub Does : {D : Type 0} → (D → List ℕ → Type 0) → KeptRoom D → Call → Reply → KeptRoom D
    → Type 0
Does may_leave before call reply after =
    (digest : List ℕ) (seed : Seed) (life : Life) → Keeps may_leave digest life before
    → IsGoing seed life before → IsDone may_leave digest seed life call reply after

-- the calls were done, of which some met a session that was owed more than it may keep
abbrev pub Makes : {D : Type 0} → (D → List ℕ → Type 0) → KeptRoom D → List Call → Bool → KeptRoom D
    → Type 0
Makes may_leave before cs met after =
    (digest : List ℕ) (seed : Seed) (life : Life) → Keeps may_leave digest life before
    → IsGoing seed life before → AreDone may_leave digest seed life cs met after

-- the calls were stopped by an error
abbrev pub StopsAmong : {D : Type 0} → (D → List ℕ → Type 0) → (D → ℕ) → KeptRoom D → List Call
    → DriveError → KeptRoom D → Type 0
StopsAmong may_leave faults before cs error after =
    (digest : List ℕ) (seed : Seed) (life : Life) → Keeps may_leave digest life before
    → IsGoing seed life before → HaveStopped may_leave faults digest life cs before error after

-- the command was done, with this text
abbrev pub Performs : {D : Type 0} → (D → List ℕ → Type 0) → KeptRoom D → Command → List ℕ
    → KeptRoom D → Type 0
Performs may_leave before c text after =
    (digest : List ℕ) (seed : Seed) (life : Life) → Keeps may_leave digest life before
    → IsGoing seed life before → IsPerformed may_leave digest seed life c text after

-- the command was stopped by an error
abbrev pub StopsIn : {D : Type 0} → (D → List ℕ → Type 0) → (D → ℕ) → KeptRoom D → Command
    → DriveError → KeptRoom D → Type 0
StopsIn may_leave faults before c error after =
    (digest : List ℕ) (seed : Seed) (life : Life) → Keeps may_leave digest life before
    → IsGoing seed life before
    → HaveStopped may_leave faults digest life (calls life c) before error after
