-- What calls on a file of the system did, and what a disk over it tells.
use Rattle.std.specs.Prelude.{◌≡◌, ℕ, List, Option, Some, None, Bool, true, false, IsTrue, if◌then◌else◌}
use Rattle.mw_disk.specs.Crash.{Follows, Elapses}
use Rattle.mw_disk.specs.FileLogs.{FileLog, state_of, Leaves, LeftSince, moment_of}

-- calls of which a crash makes a step of each image, and takes none away
pub record Runs (step : List ℕ → List ℕ → Type 0) (before now : FileLog) : Type 0 where
  pub honest : IsTrue (state_of now).honest → IsTrue (state_of before).honest
  pub lost : (state_of now).lost ≡ (state_of before).lost
  pub images : Follows step (Leaves before) (Leaves now)
  pub grows : (c : List ℕ) → Leaves before c → Leaves now c
  pub time : Elapses (moment_of before) (moment_of now) (LeftSince before) (LeftSince now)
      (Leaves now)

-- calls that change nothing
pub record Reads (before now : FileLog) : Type 0 where
  pub runs : Runs (λ d c. d ≡ c) before now
  pub bytes : (state_of now).bytes ≡ (state_of before).bytes

-- calls that make safe what is there
pub record Settles (before now : FileLog) : Type 0 where
  pub honest : (state_of now).honest ≡ (state_of before).honest
  pub bytes : (state_of now).bytes ≡ (state_of before).bytes
  pub images : (c : List ℕ) → Leaves now c → Leaves before c
  pub time : Elapses (moment_of before) (moment_of now) (LeftSince before) (LeftSince now)
      (Leaves now)

-- a crash leaves what a read gives, unless a sync had failed before
pub record Safe (before now : FileLog) : Type 0 where
  pub lost : (state_of now).lost ≡ (state_of before).lost
  pub only : (state_of before).lost ≡ false → (c : List ℕ) → Leaves now c
      → c ≡ (state_of now).bytes

-- what a disk tells, where each answer is honest
abbrev pub told_if : Bool → FileLog → Option (List ℕ)
told_if true log = Some (state_of log).bytes
told_if false log = None

abbrev pub LeavesIf : Bool → FileLog → List ℕ → Type 0
LeavesIf honest log c = IsTrue honest × Leaves log c

abbrev pub LeftIf : Bool → FileLog → ℕ → List ℕ → Type 0
LeftIf honest log t c = IsTrue honest × LeftSince log t c

abbrev pub moment_if : Bool → FileLog → ℕ
moment_if honest log = if honest then moment_of log else 0
