-- What `prepare` answers.
use Rattle.std.specs.Prelude.{◌≡◌, ◌⊎◌, ◌<◌, ℕ, List, ◌++◌, Option, Some}
use Rattle.mw_protocol.specs.Records.{Record}
use Rattle.mw_protocol.specs.Spelled.{records_bytes}
use Rattle.mw_journal.specs.Image.{Stands}
use Rattle.mw_journal.specs.Refused.{IsNotJournal, IsOtherSeed}
use Rattle.mw_journal.specs.Settled.{AllSettled}
use Rattle.mw_checkpoint.specs.Choices.{AreChoices, named_in}
use Rattle.mw_checkpoint.specs.Pair.{HoldsText, IsPrepared, Made, journal_at, journal_place, other_of}
use Rattle.mw_checkpoint.specs.Whole.{HoldsBadText}
use Rattle.mw_checkpoint.specs.declared.error.PairError.{PairError}
use Rattle.mw_checkpoint.specs.declared.error.PairError.TheVariants.{DiskFault, NotEmpty, NotJournal, OtherSeed, BadChoice, BadRecord, ChoiceFull, Memory}
use Rattle.mw_checkpoint.specs.declared.files.Files.{Files}

-- a switch is prepared for the records that were read: those for which the bytes of the journal
-- stand that CHOICE names, and where each of its images was settled for a text and a batch, those
-- of this text, or of this with the batch
pub record Prepares {D : Type 0} (told : D → Option (List ℕ)) (may_leave : D → List ℕ → Type 0)
    (digest : List ℕ) (named : ℕ) (before : Files D) (made : Made D)
    : Type 0 where
  pub records : List Record
  pub prepared : (text : List ℕ) → HoldsText may_leave digest text before.choice
      → AreChoices text → named ≡ named_in text → IsPrepared may_leave text records made
  pub seed : made.digest ≡ digest
  pub choice : made.files.choice ≡ before.choice
  pub stands : (f : List ℕ) → told (journal_at named before) ≡ Some f
      → Stands f digest (records_bytes records)
  pub one : (f text body : List ℕ) → told (journal_at named before) ≡ Some f
      → AllSettled (may_leave (journal_at named before)) digest text body
      → (records_bytes records ≡ text) ⊎ (records_bytes records ≡ text ++ body)

-- why the journal at a place gives no records
abbrev pub RefusesReading : ℕ → Option (List ℕ) → List ℕ → ℕ → ℕ → PairError → Type 0
RefusesReading here told digest before after (DiskFault place) =
    (place ≡ here) × (before < after)
RefusesReading here told digest before after (NotEmpty place) = ⊥
RefusesReading here told digest before after (NotJournal place at) =
    (place ≡ here) × ((f : List ℕ) → told ≡ Some f → IsNotJournal f digest at)
RefusesReading here told digest before after (OtherSeed place found) =
    (place ≡ here) × ((f : List ℕ) → told ≡ Some f → IsOtherSeed f digest found)
RefusesReading here told digest before after (BadChoice at) = ⊥
RefusesReading here told digest before after (BadRecord at) =
    (f : List ℕ) → told ≡ Some f → HoldsBadText f digest at
RefusesReading here told digest before after (ChoiceFull len) = ⊥
RefusesReading here told digest before after Memory = Unit {0}

-- why no journal is written anew at a place: a disk that tells its bytes isn't found with some once
-- they were cut
abbrev pub RefusesWriting : ℕ → Option (List ℕ) → ℕ → ℕ → PairError → Type 0
RefusesWriting here told before after (DiskFault place) = (place ≡ here) × (before < after)
RefusesWriting here told before after (NotEmpty place) =
    (place ≡ here) × ((f : List ℕ) → told ≡ Some f → ⊥)
RefusesWriting here told before after (NotJournal place at) = ⊥
RefusesWriting here told before after (OtherSeed place found) = ⊥
RefusesWriting here told before after (BadChoice at) = ⊥
RefusesWriting here told before after (BadRecord at) = ⊥
RefusesWriting here told before after (ChoiceFull len) = ⊥
RefusesWriting here told before after Memory = Unit {0}

-- each error of `prepare`: of the journal that is named, and then the other isn't touched, or of
-- the other
pub record IsSpared {D : Type 0} (told : D → Option (List ℕ)) (faults : D → ℕ)
    (digest : List ℕ) (named : ℕ) (before after : Files D) (error : PairError)
    : Type 0 where
  pub refused : RefusesReading (journal_place named) (told (journal_at named before)) digest
      (faults (journal_at named before)) (faults (journal_at named after)) error
  pub same : journal_at (other_of named) after ≡ journal_at (other_of named) before

abbrev pub RefusesPrepare : {D : Type 0} → (D → Option (List ℕ)) → (D → ℕ) → List ℕ → ℕ
    → Files D → Files D → PairError → Type 0
RefusesPrepare told faults digest named before after error =
    IsSpared told faults digest named before after error
    ⊎ RefusesWriting (journal_place (other_of named)) (told (journal_at (other_of named) before))
    (faults (journal_at (other_of named) before)) (faults (journal_at (other_of named) after)) error
