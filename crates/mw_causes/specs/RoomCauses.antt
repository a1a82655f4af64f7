-- Why `new-room` makes no room, as a stop, with its status and its line.
use Rattle.std.specs.Prelude.{ℕ, List, codes}
use Rattle.mw_journal.specs.declared.error.OpenError.{OpenError}
use Rattle.mw_journal.specs.declared.error.OpenError.TheVariants as journal
use Rattle.mw_causes.specs.SeedFiles.{seed_line}
use Rattle.mw_causes.specs.declared.stop.Stop.{Stop}
use Rattle.mw_causes.specs.declared.stop.Stop.TheVariants.{Fault, Memory, Refused}
use Rattle.mw_causes.specs.declared.room_cause.RoomCause.{RoomCause}
use Rattle.mw_causes.specs.declared.room_cause.RoomCause.TheVariants.{SeedFile, NotEmpty}

-- the stop for an error of making a journal
abbrev pub open_stop : OpenError → Stop RoomCause
open_stop journal.DiskFault = Fault
open_stop journal.NotEmpty = Refused NotEmpty
open_stop (journal.NotJournal at) = Memory
open_stop (journal.OtherSeed found) = Memory
open_stop journal.Memory = Memory

abbrev pub room_status : RoomCause → ℕ
room_status cause = 7

abbrev pub room_line : RoomCause → List ℕ
room_line (SeedFile cause) = seed_line cause
room_line NotEmpty = codes "journal refused: NotEmpty\n"
