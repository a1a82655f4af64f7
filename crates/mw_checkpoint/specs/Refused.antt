-- The errors of a pair room.
use Rattle.std.specs.Prelude.{◌≡◌, ◌<◌, ℕ, List, Option, Some}
use Rattle.mw_journal.specs.declared.error.OpenError.{OpenError}
use Rattle.mw_journal.specs.declared.error.OpenError.TheVariants as open_error
use Rattle.mw_disk.specs.declared.disk.DiskError.{DiskError}
use Rattle.mw_disk.specs.declared.disk.DiskError.TheVariants as disk_error
use Rattle.mw_journal.specs.declared.error.AppendError.{AppendError}
use Rattle.mw_journal.specs.declared.error.AppendError.TheVariants as append_error
use Rattle.mw_journal.specs.Refused.{IsNotJournal, IsOtherSeed}
use Rattle.mw_checkpoint.specs.declared.error.PairError.{PairError}
use Rattle.mw_checkpoint.specs.declared.error.PairError.TheVariants.{DiskFault, NotEmpty, NotJournal, OtherSeed, BadChoice, BadRecord, ChoiceFull, Memory}
use Rattle.mw_checkpoint.specs.Choices.{IsBadChoice}

-- the error for one of the journal at a place
abbrev pub pair_error_of : ℕ → OpenError → PairError
pair_error_of place open_error.DiskFault = DiskFault place
pair_error_of place open_error.NotEmpty = NotEmpty place
pair_error_of place (open_error.NotJournal at) = NotJournal place at
pair_error_of place (open_error.OtherSeed found) = OtherSeed place found
pair_error_of place open_error.Memory = Memory

-- the error for one of the disk at a place
abbrev pub disk_error_of : ℕ → DiskError → PairError
disk_error_of place disk_error.Failed = DiskFault place
disk_error_of place disk_error.Memory = Memory

-- the error for one of an append to CHOICE
abbrev pub choice_error_of : AppendError → PairError
choice_error_of append_error.DiskFault = DiskFault 0
choice_error_of (append_error.JournalFull len) = ChoiceFull len
choice_error_of append_error.Memory = Memory

-- the error for one of an append to a journal at a place that records have room in
abbrev pub append_error_of : ℕ → AppendError → PairError
append_error_of place append_error.DiskFault = DiskFault place
append_error_of place (append_error.JournalFull len) = Memory
append_error_of place append_error.Memory = Memory

-- each error of `chosen`, where CHOICE tells its bytes or nothing, and the count of its disk before
-- and after
abbrev pub RefusesChosen : Option (List ℕ) → List ℕ → ℕ → ℕ → PairError → Type 0
RefusesChosen told digest before after (DiskFault place) = (place ≡ 0) × (before < after)
RefusesChosen told digest before after (NotEmpty place) = ⊥
RefusesChosen told digest before after (NotJournal place at) =
    (place ≡ 0) × ((f : List ℕ) → told ≡ Some f → IsNotJournal f digest at)
RefusesChosen told digest before after (OtherSeed place found) =
    (place ≡ 0) × ((f : List ℕ) → told ≡ Some f → IsOtherSeed f digest found)
RefusesChosen told digest before after (BadChoice at) =
    (f : List ℕ) → told ≡ Some f → IsBadChoice f digest at
RefusesChosen told digest before after (BadRecord at) = ⊥
RefusesChosen told digest before after (ChoiceFull len) = ⊥
RefusesChosen told digest before after Memory = Unit {0}

-- an error that isn't about the bytes: a fault, or want of memory
abbrev pub IsOutside : PairError → Type 0
IsOutside (DiskFault place) = Unit {0}
IsOutside (NotEmpty place) = ⊥
IsOutside (NotJournal place at) = ⊥
IsOutside (OtherSeed place found) = ⊥
IsOutside (BadChoice at) = ⊥
IsOutside (BadRecord at) = ⊥
IsOutside (ChoiceFull len) = ⊥
IsOutside Memory = Unit {0}

-- a file is no journal, or another seed's
abbrev pub IsNoJournal : PairError → Type 0
IsNoJournal (DiskFault place) = ⊥
IsNoJournal (NotEmpty place) = ⊥
IsNoJournal (NotJournal place at) = Unit {0}
IsNoJournal (OtherSeed place found) = Unit {0}
IsNoJournal (BadChoice at) = ⊥
IsNoJournal (BadRecord at) = ⊥
IsNoJournal (ChoiceFull len) = ⊥
IsNoJournal Memory = ⊥
