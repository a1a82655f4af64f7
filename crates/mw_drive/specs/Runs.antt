-- What the steps of a script and all of them come to, whatever life the room is kept in.
use Rattle.std.specs.Prelude.{◌≡◌, ◌⊎◌, ◌<◌, ℕ, List, [], ◌∷◌, Option, Ok, IsTrue, IsFalse, map}
use Rattle.std.specs.List.{list_any}
use Rattle.std.specs.Io.KnownBytes.{Appends, Keeps as WasKept}
use Rattle.mw_edges.specs.Causes.{PutsFront}
use Rattle.mw_model.specs.Seed.{Seed}
use Rattle.mw_multidata.specs.Digest.{digest_of}
use Rattle.mw_multidata.specs.SeedOf.{SeedOf}
use Rattle.mw_protocol.specs.Lives.{Life, Step, after_all, new_life}
use Rattle.mw_protocol.specs.Named.{are_named}
use Rattle.mw_protocol.specs.Records.{Record}
use Rattle.mw_laws.specs.Naming.{NamesFit}
use Rattle.mw_keep.specs.Entered.{AreSound}
use Rattle.mw_keep.specs.Keeps.{Keeps, kept_disk}
use Rattle.mw_keep.specs.Left.{IsLeft}
use Rattle.mw_keep.specs.declared.kept.KeptRoom.{KeptRoom}
use Rattle.mw_drive.specs.Calls.{IsOutside}
use Rattle.mw_script.specs.Commands.{Command}
use Rattle.mw_drive.specs.Drive.{is_crash, is_full, after, calls, puts, step_of, text_put, run, drive_text}
use Rattle.mw_drive.specs.Input.{HasScript, HasNoScript}
use Rattle.mw_drive.specs.Left.{IsGoing, FindsItself, HasDriven, KeepsFrom}
use Rattle.mw_drive.specs.declared.error.DriveError.{DriveError}
use Rattle.mw_drive.specs.declared.error.DriveError.TheVariants.{Fault, Memory, Full, Journal, Script}

-- ---- a step

-- it was done: its text was put, and the room goes on in the life after it
pub record HasStepped {D : Type 0} (may_leave : D → List ℕ → Type 0) (digest : List ℕ) (seed : Seed)
    (life : Life) (c : Command)
    (old new : Option (List ℕ)) (k : KeptRoom D)
    : Type 0 where
  pub whole : IsFalse (is_full life c)
  pub put : Appends old new (text_put (puts life c))
  pub keeps : Keeps may_leave digest (after life c) k
  pub going : IsGoing seed (after life c) k

-- nothing was put, or all of its calls were done
abbrev pub IsQuietOrDone : Life → Command → List Step → Option (List ℕ) → Option (List ℕ) → Type 0
IsQuietOrDone life c steps old new =
    Appends old new []
    ⊎ (IsFalse (is_crash c) × (steps ≡ map step_of (calls life c)) × IsFalse (is_full life c))

-- it wasn't: a front of its text was put, and nothing unless its calls were done; a crash may leave
-- some life that goes on from this one; the journal is refused only where it holds records that the
-- seed hasn't
pub record IsCut {D : Type 0} (may_leave : D → List ℕ → Type 0) (digest : List ℕ) (seed : Seed)
    (life : Life) (c : Command)
    (old new : Option (List ℕ)) (disk : D) (error : DriveError)
    : Type 0 where
  pub steps : List Step
  pub left : IsLeft (may_leave disk) digest (after_all life steps)
  pub front : PutsFront old new (text_put (puts life c))
  pub told : IsQuietOrDone life c steps old new
  pub full : error ≡ Full → IsTrue (is_full life c)
  pub outside : AreSound seed life.room.journal → IsOutside error

-- ---- a step that isn't a crash, in any life

abbrev pub StepsOn : {D : Type 0} → (D → List ℕ → Type 0) → KeptRoom D → Command → Option (List ℕ)
    → Option (List ℕ) → KeptRoom D → Type 0
StepsOn may_leave before c old new k =
    (digest : List ℕ) (seed : Seed) (life : Life) → Keeps may_leave digest life before
    → IsGoing seed life before → HasStepped may_leave digest seed life c old new k

abbrev pub IsCutOn : {D : Type 0} → (D → List ℕ → Type 0) → KeptRoom D → Command → Option (List ℕ)
    → Option (List ℕ) → D → DriveError → Type 0
IsCutOn may_leave before c old new disk error =
    (digest : List ℕ) (seed : Seed) (life : Life) → Keeps may_leave digest life before
    → IsGoing seed life before → IsCut may_leave digest seed life c old new disk error

-- a fault is shown by the disk's count, or else by this
abbrev pub FaultShows : {D : Type 0} → (D → List ℕ → Type 0) → (D → ℕ) → KeptRoom D → D → Type 0
    → Type 0
FaultShows may_leave faults before disk otherwise =
    (digest : List ℕ) (seed : Seed) (life : Life) → Keeps may_leave digest life before
    → IsGoing seed life before → (faults (kept_disk before) < faults disk) ⊎ otherwise

-- ---- any step, in a life of the seed file's room that finds itself after a crash

-- the room is kept in such a life
pub record IsKeptIn {D : Type 0} (may_leave : D → List ℕ → Type 0) (told : D → Option (List ℕ))
    (file : List ℕ) (cs : List Command) (seed : Seed) (life : Life)
    (k : KeptRoom D)
    : Type 0 where
  pub accepted : SeedOf file (Ok seed)
  pub keeps : Keeps may_leave (digest_of file) life k
  pub going : IsGoing seed life k
  pub finds : FindsItself (told (kept_disk k)) cs

abbrev pub StepsAlways : {D : Type 0} → (D → List ℕ → Type 0) → (D → Option (List ℕ)) → List ℕ
    → KeptRoom D → Command → Option (List ℕ) → Option (List ℕ)
    → KeptRoom D → Type 0
StepsAlways may_leave told file before c old new k =
    (seed : Seed) (life : Life) → IsKeptIn may_leave told file (c ∷ []) seed life before
    → HasStepped may_leave (digest_of file) seed life c old new k

abbrev pub IsCutAlways : {D : Type 0} → (D → List ℕ → Type 0) → (D → Option (List ℕ)) → List ℕ
    → KeptRoom D → Command → Option (List ℕ) → Option (List ℕ)
    → D → DriveError → Type 0
IsCutAlways may_leave told file before c old new disk error =
    (seed : Seed) (life : Life) → IsKeptIn may_leave told file (c ∷ []) seed life before
    → IsCut may_leave (digest_of file) seed life c old new disk error

-- ---- faults, in any life of the seed file's room

pub record HasLife {D : Type 0} (may_leave : D → List ℕ → Type 0) (file : List ℕ)
    (k : KeptRoom D) : Type 0 where
  pub seed : Seed
  pub life : Life
  pub accepted : SeedOf file (Ok seed)
  pub keeps : Keeps may_leave (digest_of file) life k
  pub going : IsGoing seed life k

abbrev pub FaultIsTold : {D : Type 0} → (D → List ℕ → Type 0) → (D → ℕ) → List ℕ → KeptRoom D → D
    → Type 0 → Type 0
FaultIsTold may_leave faults file before disk otherwise =
    HasLife may_leave file before → (faults (kept_disk before) < faults disk) ⊎ otherwise

-- ---- what stops a run

-- once its commands run a script isn't refused, and the journal only at a crash
abbrev pub IsOfRun : List Command → DriveError → Type 0
IsOfRun cs Fault = Unit {0}
IsOfRun cs Memory = Unit {0}
IsOfRun cs Full = Unit {0}
IsOfRun cs (Journal refusal) = IsTrue (list_any is_crash cs)
IsOfRun cs (Script line) = ⊥

-- ---- all steps

-- they stopped before their end: a front of their text was put; for a full journal just where the
-- definition says so, once all before was put; at no crash is a journal refused that began with
-- records which name only what the seed has, whoever wrote them
pub record HasHalted (images : List ℕ → Type 0) (digest : List ℕ) (seed : Seed) (life : Life)
    (cs : List Command)
    (old new : Option (List ℕ)) (error : DriveError)
    : Type 0 where
  pub front : PutsFront old new (drive_text life cs)
  pub full : error ≡ Full → IsTrue (run life cs).full × Appends old new (drive_text life cs)
  pub kept : KeepsFrom images digest life old new
  pub outside : (journal : List Record) (place : ℕ) → life ≡ new_life seed journal place
      → NamesFit seed → IsTrue (are_named seed journal) → IsOutside error

abbrev pub RunsAlways : {D : Type 0} → (D → List ℕ → Type 0) → (D → Option (List ℕ)) → List ℕ
    → KeptRoom D → List Command → Option (List ℕ) → Option (List ℕ) → D → Type 0
RunsAlways may_leave told file before cs old new disk =
    (seed : Seed) (life : Life) → IsKeptIn may_leave told file cs seed life before
    → HasDriven (may_leave disk) (digest_of file) life cs old new
    × KeepsFrom (may_leave disk) (digest_of file) life old new

abbrev pub HaltsAlways : {D : Type 0} → (D → List ℕ → Type 0) → (D → Option (List ℕ)) → List ℕ
    → KeptRoom D → List Command → Option (List ℕ) → Option (List ℕ)
    → D → DriveError → Type 0
HaltsAlways may_leave told file before cs old new disk error =
    (seed : Seed) (life : Life) → IsKeptIn may_leave told file cs seed life before
    → HasHalted (may_leave disk) (digest_of file) seed life cs old new error

-- where a room is kept and the script was read or not
abbrev pub RunsScript : {D : Type 0} → (D → List ℕ → Type 0) → (D → Option (List ℕ)) → List ℕ
    → KeptRoom D → Option (List ℕ) → Option (List ℕ) → Option (List ℕ) → Option (List ℕ) → D
    → Type 0
RunsScript may_leave told file before from to old new disk =
    (cs : List Command) × HasScript from to cs
    × RunsAlways may_leave told file before cs old new disk

-- no script was read, nothing was put, and the disk is handed back as it was; or its commands
-- stopped before their end
abbrev pub HaltsScript : {D : Type 0} → (D → List ℕ → Type 0) → (D → Option (List ℕ)) → List ℕ
    → KeptRoom D → Option (List ℕ) → Option (List ℕ) → Option (List ℕ) → Option (List ℕ)
    → D → DriveError → Type 0
HaltsScript may_leave told file before from to old new disk error =
    (HasNoScript from to error × WasKept old new × (disk ≡ kept_disk before))
    ⊎ ((cs : List Command) × HasScript from to cs × IsOfRun cs error
    × HaltsAlways may_leave told file before cs old new disk error)
