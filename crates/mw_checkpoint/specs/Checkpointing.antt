-- What a whole checkpoint leaves of three files.
use Rattle.std.specs.Prelude.{◌≡◌, ◌⊎◌, ℕ, List, ◌++◌, Option, Some, Contains, IsTrue, is_some, length, map}
use Rattle.mw_protocol.specs.Records.{Record}
use Rattle.mw_protocol.specs.Spelled.{records_bytes}
use Rattle.mw_thinning.specs.Thinning.{thinned}
use Rattle.mw_journal.specs.Image.{Stands}
use Rattle.mw_journal.specs.Settled.{AllSettled}
use Rattle.mw_checkpoint.specs.Choices.{AreChoices, named_in}
use Rattle.mw_checkpoint.specs.Pair.{PairStands, journal_at}
use Rattle.mw_checkpoint.specs.Preparing.{RefusesPrepare}
use Rattle.mw_checkpoint.specs.Refused.{RefusesChosen}
use Rattle.mw_checkpoint.specs.Switching.{IsOutsideOrFull, RefusesSwitch}
use Rattle.mw_checkpoint.specs.Whole.{AreRecords}
use Rattle.mw_checkpoint.specs.declared.error.PairError.{PairError}
use Rattle.mw_checkpoint.specs.declared.files.Files.{Files}
use Rattle.mw_checkpoint.specs.declared.switching.Kept.{Kept}

-- each image of a journal is settled for records and a batch; these records, and these with the
-- batch, are allowed
pub record HasSettled (images : List ℕ → Type 0) (digest : List ℕ) (allowed : List (List Record))
    : Type 0 where
  pub kept : List Record
  pub batch : List Record
  pub spelled : AreRecords (kept ++ batch)
  pub front : AreRecords kept
  pub settled : AllSettled images digest (records_bytes kept) (records_bytes batch)
  pub first : Contains allowed kept
  pub both : Contains allowed (kept ++ batch)

-- each image of CHOICE is settled for a text of bytes 0 and 1 and a batch of such; and so it is with
-- records for each journal that the text names, or the text with the batch
pub record MayStand {D : Type 0} (may_leave : D → List ℕ → Type 0) (digest : List ℕ)
    (files : Files D) (allowed : List (List Record))
    : Type 0 where
  pub text : List ℕ
  pub body : List ℕ
  pub choice : AllSettled (may_leave files.choice) digest text body
  pub texts : AreChoices text
  pub bodies : AreChoices body
  pub journals : (named : ℕ) → (named ≡ named_in text) ⊎ (named ≡ named_in (text ++ body))
      → HasSettled (may_leave (journal_at named files)) digest allowed

-- so it is, and CHOICE tells its bytes
pub record AreSettled {D : Type 0} (told : D → Option (List ℕ)) (may_leave : D → List ℕ → Type 0)
    (digest : List ℕ) (files : Files D) (allowed : List (List Record))
    : Type 0 where
  pub bytes : List ℕ
  pub tells : told files.choice ≡ Some bytes
  pub stand : MayStand may_leave digest files allowed

-- both journals tell their bytes
abbrev pub JournalsTell : {D : Type 0} → (D → Option (List ℕ)) → Files D → Type 0
JournalsTell told files = (number : ℕ) → IsTrue (is_some (told (journal_at number files)))

-- the allowed lists of records, and what counts of each
abbrev pub with_thinned : List (List Record) → List (List Record)
with_thinned allowed = allowed ++ map thinned allowed

-- three images stand together for one of the allowed lists of records, or for what counts of it
pub record StandForOne (digest : List ℕ) (allowed : List (List Record))
    (choice first second : List ℕ)
    : Type 0 where
  pub records : List Record
  pub is_allowed : Contains allowed records
  pub stand : PairStands choice first second digest records
      ⊎ PairStands choice first second digest (thinned records)

-- so do each three images of the files
abbrev pub AllStandForOne : {D : Type 0} → (D → List ℕ → Type 0) → List ℕ → Files D
    → List (List Record) → Type 0
AllStandForOne may_leave digest files allowed = (choice first second : List ℕ)
    → may_leave files.choice choice → may_leave files.zero first → may_leave files.one second
    → StandForOne digest allowed choice first second

-- the files stood for records as they were read: CHOICE for a text of bytes 0 and 1, and the journal
-- that it names for these records; now each three images stand for what counts of them
pub record IsThinned {D : Type 0} (told : D → Option (List ℕ)) (may_leave : D → List ℕ → Type 0)
    (digest : List ℕ) (before after : Files D) (kept : Kept)
    : Type 0 where
  pub text : List ℕ
  pub records : List Record
  pub names : (f : List ℕ) → told before.choice ≡ Some f → Stands f digest text
  pub choices : AreChoices text
  pub reads : (f : List ℕ) → told (journal_at (named_in text) before) ≡ Some f
      → Stands f digest (records_bytes records)
  pub spelled : AreRecords records
  pub stands : (choice first second : List ℕ) → may_leave after.choice choice
      → may_leave after.zero first → may_leave after.one second
      → PairStands choice first second digest (thinned records)
  pub of : kept.of ≡ length records
  pub left : kept.kept ≡ length (thinned records)

-- each error of a checkpoint: CHOICE names no journal; what counts of the one that it names isn't
-- written into the other; or CHOICE, as it was opened, doesn't take its number, which isn't for its
-- bytes where it tells them, unless it is full
abbrev pub RefusesCheckpoint : {D : Type 0} → (D → Option (List ℕ)) → (D → ℕ) → List ℕ → Files D
    → Files D → PairError → Type 0
RefusesCheckpoint told faults digest before after error =
    RefusesChosen (told before.choice) digest (faults before.choice) (faults after.choice) error
    ⊎ (((text : List ℕ)
    × ((f : List ℕ) → told before.choice ≡ Some f → Stands f digest text)
    × RefusesPrepare told faults digest (named_in text) before after error)
    ⊎ ((opened : Option (List ℕ)) × (is_some opened ≡ is_some (told before.choice))
    × RefusesSwitch opened digest (faults before.choice) (faults after.choice) error
    × ((f : List ℕ) → opened ≡ Some f → IsOutsideOrFull error)))
