-- Why a command on a pair room doesn't do all, as a stop, with its status and its line.
use Rattle.std.specs.Prelude.{◌++◌, ℕ, List, codes}
use Rattle.mw_checkpoint.specs.declared.error.PairError.{PairError}
use Rattle.mw_checkpoint.specs.declared.error.PairError.TheVariants as error
use Rattle.mw_drive.specs.declared.error.DriveError.{DriveError}
use Rattle.mw_causes.specs.DriveCauses.{drive_line, drive_status, drive_stop}
use Rattle.mw_causes.specs.Ends.{stop_with}
use Rattle.mw_causes.specs.SeedFiles.{seed_line}
use Rattle.mw_causes.specs.declared.drive_cause.DriveCause.TheVariants as drive_cause
use Rattle.mw_causes.specs.declared.pair_drive_cause.PairDriveCause.{PairDriveCause}
use Rattle.mw_causes.specs.declared.pair_drive_cause.PairDriveCause.TheVariants.{Drive, Choice}
use Rattle.mw_causes.specs.declared.pair_refusal.PairRefusal.{PairRefusal}
use Rattle.mw_causes.specs.declared.pair_refusal.PairRefusal.TheVariants.{NotEmpty, NotJournal, OtherSeed, BadChoice, BadRecord}
use Rattle.mw_causes.specs.declared.room_cause.RoomCause.{RoomCause}
use Rattle.mw_causes.specs.declared.room_cause.RoomCause.TheVariants as room_cause
use Rattle.mw_causes.specs.declared.seed_cause.SeedCause.{SeedCause}
use Rattle.mw_causes.specs.declared.stop.Stop.{Stop}
use Rattle.mw_causes.specs.declared.stop.Stop.TheVariants.{Fault, Memory, Refused}
use Rattle.mw_causes.specs.declared.thin_cause.ThinCause.{ThinCause}
use Rattle.mw_causes.specs.declared.thin_cause.ThinCause.TheVariants.{SeedFile, File, Full}

abbrev pub pair_word : PairRefusal → List ℕ
pair_word NotEmpty = codes "NotEmpty"
pair_word NotJournal = codes "NotJournal"
pair_word OtherSeed = codes "OtherSeed"
pair_word BadChoice = codes "BadChoice"
pair_word BadRecord = codes "BadRecord"

-- the line for a file of a pair room that is refused
abbrev pub pair_line : PairRefusal → List ℕ
pair_line refusal = codes "journal refused: " ++ pair_word refusal ++ codes "\n"

-- ---- making one

-- an error of making three journals
abbrev pub IsOfMaking : PairError → Type 0
IsOfMaking (error.DiskFault place) = Unit {0}
IsOfMaking (error.NotEmpty place) = Unit {0}
IsOfMaking (error.NotJournal place at) = ⊥
IsOfMaking (error.OtherSeed place found) = ⊥
IsOfMaking (error.BadChoice at) = ⊥
IsOfMaking (error.BadRecord at) = ⊥
IsOfMaking (error.ChoiceFull len) = ⊥
IsOfMaking error.Memory = Unit {0}

-- its stop
abbrev pub making_stop : PairError → Stop RoomCause
making_stop (error.DiskFault place) = Fault
making_stop (error.NotEmpty place) = Refused room_cause.NotEmpty
making_stop (error.NotJournal place at) = Memory
making_stop (error.OtherSeed place found) = Memory
making_stop (error.BadChoice at) = Memory
making_stop (error.BadRecord at) = Memory
making_stop (error.ChoiceFull len) = Memory
making_stop error.Memory = Memory

-- ---- thinning it

-- the stop for an error of a checkpoint
abbrev pub thin_stop : PairError → Stop ThinCause
thin_stop (error.DiskFault place) = Fault
thin_stop (error.NotEmpty place) = Refused (File NotEmpty)
thin_stop (error.NotJournal place at) = Refused (File NotJournal)
thin_stop (error.OtherSeed place found) = Refused (File OtherSeed)
thin_stop (error.BadChoice at) = Refused (File BadChoice)
thin_stop (error.BadRecord at) = Refused (File BadRecord)
thin_stop (error.ChoiceFull len) = Refused Full
thin_stop error.Memory = Memory

abbrev pub thin_status : ThinCause → ℕ
thin_status (SeedFile cause) = 7
thin_status (File refusal) = 7
thin_status Full = 8

abbrev pub thin_line : ThinCause → List ℕ
thin_line (SeedFile cause) = seed_line cause
thin_line (File refusal) = pair_line refusal
thin_line Full = codes "journal full\n"

-- ---- playing it

-- the stop for an error of reading what CHOICE names
abbrev pub choice_stop : PairError → Stop PairDriveCause
choice_stop (error.DiskFault place) = Fault
choice_stop (error.NotEmpty place) = Refused (Choice NotEmpty)
choice_stop (error.NotJournal place at) = Refused (Choice NotJournal)
choice_stop (error.OtherSeed place found) = Refused (Choice OtherSeed)
choice_stop (error.BadChoice at) = Refused (Choice BadChoice)
choice_stop (error.BadRecord at) = Refused (Choice BadRecord)
choice_stop (error.ChoiceFull len) = Refused (Drive drive_cause.Full)
choice_stop error.Memory = Memory

-- a refused seed file
abbrev pub seed_cause_of : SeedCause → PairDriveCause
seed_cause_of cause = Drive (drive_cause.SeedFile cause)

-- the stop for an error of the run on the journal that CHOICE names
abbrev pub played_stop : DriveError → Stop PairDriveCause
played_stop why = stop_with Drive (drive_stop why)

abbrev pub pair_drive_status : PairDriveCause → ℕ
pair_drive_status (Drive cause) = drive_status cause
pair_drive_status (Choice refusal) = 7

abbrev pub pair_drive_line : PairDriveCause → List ℕ
pair_drive_line (Drive cause) = drive_line cause
pair_drive_line (Choice refusal) = pair_line refusal
