-- When a call may answer that the disk failed.
use Rattle.std.specs.Prelude.{◌<◌, ◌≤◌, ℕ, Result, IsErrOf}
use Rattle.mw_disk.specs.declared.disk.DiskError.{DiskError}
use Rattle.mw_disk.specs.declared.disk.DiskError.TheVariants.{Failed}

-- the count of faults doesn't fall, and `Failed` comes only where it rose
pub record HasCause {T : Type 0} (before now : ℕ) (result : Result T DiskError) : Type 0 where
  pub later : before ≤ now
  pub cause : IsErrOf result Failed → before < now
