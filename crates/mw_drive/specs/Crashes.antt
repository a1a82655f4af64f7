-- What a crash in a script comes to.
use Rattle.std.specs.Prelude.{ℕ, List, Result, Ok, Err}
use Rattle.mw_model.specs.Seed.{Seed}
use Rattle.mw_multidata.specs.SeedOf.{SeedOf}
use Rattle.mw_keep.specs.Keeps.{kept_disk}
use Rattle.mw_keep.specs.declared.error.KeepError.{KeepError}
use Rattle.mw_keep.specs.declared.error.KeepError.TheVariants as keep
use Rattle.mw_keep.specs.declared.kept.KeptRoom.{KeptRoom}
use Rattle.mw_drive.specs.declared.error.DriveError.{DriveError}
use Rattle.mw_drive.specs.declared.error.DriveError.TheVariants.{Fault, Memory, Journal}
use Rattle.mw_drive.specs.declared.error.JournalRefusal.TheVariants.{NotJournal, OtherSeed, BadRecord}

-- the error for one of recovering a room, whose seed file is accepted
abbrev pub error_of : KeepError → DriveError
error_of (keep.BadSeed kind path) = Memory
error_of keep.DiskFault = Fault
error_of (keep.NotJournal at) = Journal (NotJournal at)
error_of (keep.OtherSeed found) = Journal (OtherSeed found)
error_of (keep.BadRecord at) = Journal (BadRecord at)
error_of keep.Memory = Memory

-- the seed file is accepted
abbrev pub IsAccepted : List ℕ → Type 0
IsAccepted file = (seed : Seed) × SeedOf file (Ok seed)

-- the disk in a room, or handed back
abbrev pub disk_left : {D : Type 0} → Result (KeptRoom D) (D × DriveError) → D
disk_left (Ok k) = kept_disk k
disk_left (Err refused) = refused.0
