-- What a checkpoint of a pair room in a folder leaves.
use Rattle.std.specs.Prelude.{◌≡◌, ◌⊎◌, ℕ, List, Option, Some, is_some}
use Rattle.mw_edges.specs.Folders.{opened_bytes}
use Rattle.mw_protocol.specs.Records.{Record}
use Rattle.mw_journal.specs.Image.{Stands}
use Rattle.mw_checkpoint.specs.Checkpointing.{AllStandForOne, AreSettled, IsThinned, JournalsTell, MayStand, with_thinned}
use Rattle.mw_checkpoint.specs.Choices.{named_in}
use Rattle.mw_checkpoint.specs.Pair.{journal_place, other_of}
use Rattle.mw_checkpoint.specs.Preparing.{RefusesReading, RefusesWriting}
use Rattle.mw_checkpoint.specs.Refused.{RefusesChosen}
use Rattle.mw_checkpoint.specs.Switching.{IsOutsideOrFull, RefusesSwitch}
use Rattle.mw_checkpoint.specs.declared.error.PairError.{PairError}
use Rattle.mw_checkpoint.specs.declared.switching.Kept.{Kept}
use Rattle.mw_pair.specs.Folders.{IsOpening}
use Rattle.mw_pair.specs.Names.{file_names, journal_name}

-- what a folder tells of the bytes of a name
abbrev pub bytes_in : (List ℕ → Option (Option (List ℕ))) → List ℕ → Option (List ℕ)
bytes_in holds name = opened_bytes (holds name)

-- the three files stood for records as they were read, and now each three images of them stand for
-- what counts of these
abbrev pub AreThinned : (List ℕ → Option (Option (List ℕ))) → (List ℕ → List ℕ → Type 0) → List ℕ
    → List ℕ → Kept → Type 0
AreThinned before may_leave choice digest kept =
    IsThinned (bytes_in before) may_leave digest (file_names choice) (file_names choice) kept

-- where what a crash might have left of the three was settled, for allowed records, each three
-- images of them stand for one of these, or for what counts of it
abbrev pub KeepAllowed : (List ℕ → Option (Option (List ℕ)))
    → (might_leave may_leave : List ℕ → List ℕ → Type 0) → List ℕ → List ℕ → Type 0
KeepAllowed before might_leave may_leave choice digest = (allowed : List (List Record))
    → AreSettled (bytes_in before) might_leave digest (file_names choice) allowed
    → AllStandForOne may_leave digest (file_names choice) allowed

-- and where the journals are told too, what it may leave is settled, for these records or for what
-- counts of them
abbrev pub KeepSettled : (List ℕ → Option (Option (List ℕ)))
    → (might_leave may_leave : List ℕ → List ℕ → Type 0) → List ℕ → List ℕ → Type 0
KeepSettled before might_leave may_leave choice digest = (allowed : List (List Record))
    → AreSettled (bytes_in before) might_leave digest (file_names choice) allowed
    → JournalsTell (bytes_in before) (file_names choice)
    → MayStand may_leave digest (file_names choice) (with_thinned allowed)

pub record KeepsPair (before : List ℕ → Option (Option (List ℕ)))
    (might_leave may_leave : List ℕ → List ℕ → Type 0) (choice digest : List ℕ)
    : Type 0 where
  pub stands : KeepAllowed before might_leave may_leave choice digest
  pub settled : KeepSettled before might_leave may_leave choice digest

-- why the journal that CHOICE names isn't thinned into the other: it gives no records, or the other
-- one isn't written
pub record RefusesCopy (before : List ℕ → Option (Option (List ℕ))) (choice digest : List ℕ)
    (error : PairError)
    : Type 0 where
  pub text : List ℕ
  pub names : (f : List ℕ) → bytes_in before choice ≡ Some f → Stands f digest text
  pub was : ℕ
  pub now : ℕ
  pub refused : RefusesReading (journal_place (named_in text))
      (bytes_in before (journal_name choice (named_in text))) digest was now error
      ⊎ RefusesWriting (journal_place (other_of (named_in text)))
      (bytes_in before (journal_name choice (other_of (named_in text)))) was now error

-- why CHOICE, as it was opened, doesn't take the other journal's number: not for its bytes where it
-- tells them, unless it is full
pub record RefusesNumber (before : List ℕ → Option (Option (List ℕ))) (choice digest : List ℕ)
    (error : PairError)
    : Type 0 where
  pub opened : Option (List ℕ)
  pub tells : is_some opened ≡ is_some (bytes_in before choice)
  pub was : ℕ
  pub now : ℕ
  pub refused : RefusesSwitch opened digest was now error
  pub outside : (f : List ℕ) → opened ≡ Some f → IsOutsideOrFull error

-- each error of a checkpoint: a file isn't opened, or memory is wanting; or it is of CHOICE, of the
-- journals, or of CHOICE once more
abbrev pub RefusesThin : (List ℕ → Option (Option (List ℕ))) → List ℕ → List ℕ → PairError → Type 0
RefusesThin before choice digest error =
    IsOpening error
    ⊎ (((was : ℕ) × (now : ℕ) × RefusesChosen (bytes_in before choice) digest was now error)
    ⊎ (RefusesCopy before choice digest error ⊎ RefusesNumber before choice digest error))
