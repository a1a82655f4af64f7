-- Why `drive` doesn't do all, as a stop, with its status and its line.
use Rattle.std.specs.Prelude.{◌++◌, ℕ, List, codes, decimal}
use Rattle.mw_drive.specs.declared.error.DriveError.{DriveError}
use Rattle.mw_drive.specs.declared.error.DriveError.TheVariants as error
use Rattle.mw_drive.specs.declared.error.JournalRefusal.{JournalRefusal}
use Rattle.mw_drive.specs.declared.error.JournalRefusal.TheVariants.{NotJournal, OtherSeed, BadRecord}
use Rattle.mw_causes.specs.SeedFiles.{seed_line}
use Rattle.mw_causes.specs.declared.stop.Stop.{Stop}
use Rattle.mw_causes.specs.declared.stop.Stop.TheVariants.{Fault, Memory, Refused}
use Rattle.mw_causes.specs.declared.drive_cause.DriveCause.{DriveCause}
use Rattle.mw_causes.specs.declared.drive_cause.DriveCause.TheVariants.{SeedFile, Journal, Script, Full}

abbrev pub refusal_word : JournalRefusal → List ℕ
refusal_word (NotJournal at) = codes "NotJournal"
refusal_word (OtherSeed found) = codes "OtherSeed"
refusal_word (BadRecord at) = codes "BadRecord"

-- the stop for an error of the run
abbrev pub drive_stop : DriveError → Stop DriveCause
drive_stop error.Fault = Fault
drive_stop error.Memory = Memory
drive_stop error.Full = Refused Full
drive_stop (error.Journal refusal) = Refused (Journal refusal)
drive_stop (error.Script line) = Refused (Script line)

abbrev pub drive_status : DriveCause → ℕ
drive_status (SeedFile cause) = 7
drive_status (Journal refusal) = 7
drive_status (Script line) = 7
drive_status Full = 8

abbrev pub drive_line : DriveCause → List ℕ
drive_line (SeedFile cause) = seed_line cause
drive_line (Journal refusal) =
    codes "journal refused: " ++ refusal_word refusal ++ codes "\n"
drive_line (Script line) = codes "script refused: line " ++ decimal line ++ codes "\n"
drive_line Full = codes "journal full\n"
