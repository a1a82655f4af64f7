-- What a disk over a file of the system shows.
use Rattle.std.specs.Prelude.{ℕ}
use Rattle.mw_disk.specs.declared.file.FileDisk.{FileDisk}
use Rattle.mw_disk.specs.declared.file_calls.FileCalls.{Ghosts}

module _ {C : Type 0} {g : Ghosts C} where
  -- how often it has failed
  abbrev pub file_faults : FileDisk C g → ℕ
  file_faults d = d.faults

  -- the open file
  abbrev pub calls_of : FileDisk C g → C
  calls_of d = d.calls
