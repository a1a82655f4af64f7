-- What a run of calls leaves that reads a disk and writes nothing.
use Rattle.std.specs.Prelude.{◌≡◌, ◌≤◌, ℕ, List, Option}
use Rattle.mw_disk.specs.Crash.{Stays, LeavesOnly}

-- what a read gives is as before; at each moment a crash leaves only what it might have left before
pub record OnlyReads {D : Type 0} (told : D → Option (List ℕ)) (may_leave : D → List ℕ → Type 0)
    (moment : D → ℕ) (left_since : D → ℕ → List ℕ → Type 0) (faults : D → ℕ) (before after : D)
    : Type 0 where
  pub same : told after ≡ told before
  pub stays : Stays (may_leave before) (may_leave after)
  pub moments : LeavesOnly moment left_since before after (may_leave before)
  pub later : faults before ≤ faults after
