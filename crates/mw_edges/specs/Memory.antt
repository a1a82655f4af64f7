-- What objects in memory show.
use Rattle.std.specs.Prelude.{ℕ, List}
use Rattle.mw_disk.specs.declared.disk.DiskError.{DiskError}
use Rattle.mw_edges.specs.declared.disks.KeptDisk.{KeptDisk}
use Rattle.mw_edges.specs.FaultPlan.{FaultPlan}

-- a source's bytes that are left, and which calls fail
pub record MemoryStream : Type 0 where
  pub bytes : List ℕ
  pub plan : FaultPlan

-- a folder's files, each a name and its bytes; what is kept of those that were opened as disks;
-- how often it has failed, and has refused to write one
pub record SteadyFiles : Type 0 where
  pub files : List (List ℕ × List ℕ)
  pub disks : List (List ℕ × KeptDisk)
  pub failed : ℕ
  pub refused : ℕ

-- the same, and which calls of the disks of a name fail, and which of its own
pub record MemoryFiles : Type 0 where
  pub files : List (List ℕ × List ℕ)
  pub disks : List (List ℕ × KeptDisk)
  pub disk_plans : List (List ℕ × List (ℕ × DiskError))
  pub refused : ℕ
  pub plan : FaultPlan

-- a sink's bytes that were put, and how often memory for more was wanting
pub record SteadyBytes : Type 0 where
  pub bytes : List ℕ
  pub wanting : ℕ

-- the same, and which calls fail
pub record MemoryBytes : Type 0 where
  pub bytes : List ℕ
  pub wanting : ℕ
  pub plan : FaultPlan
