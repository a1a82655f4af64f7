-- What three images stand for together, and what is kept of a prepared switch.
use Rattle.std.specs.Prelude.{◌≡◌, ℕ, List, length, ◌==◌, if◌then◌else◌, Result, Ok, Err}
use Rattle.mw_protocol.specs.Records.{Record}
use Rattle.mw_protocol.specs.Spelled.{records_bytes}
use Rattle.mw_thinning.specs.Thinning.{thinned}
use Rattle.mw_journal.specs.Image.{Stands}
use Rattle.mw_journal.specs.Settled.{AllShut}
use Rattle.mw_checkpoint.specs.Choices.{AreChoices, named_in}
use Rattle.mw_checkpoint.specs.Whole.{AreRecords}
use Rattle.mw_checkpoint.specs.declared.files.Files.{Files}

-- of two, the one that a number names
abbrev pub pick : {A : Type 0} → ℕ → A → A → A
pick named first second = if named == 0 then first else second

-- the number of the other journal
abbrev pub other_of : ℕ → ℕ
other_of named = pick named 1 0

-- the disk of a journal's number, and its place among the three
abbrev pub journal_at : {D : Type 0} → ℕ → Files D → D
journal_at named files = pick named files.zero files.one

abbrev pub journal_place : ℕ → ℕ
journal_place named = pick named 1 2

-- the image of CHOICE stands for a text of bytes 0 and 1, and the image of the journal that the
-- last one names, or of the journal 0, stands for the records
pub record PairStands (choice first second digest : List ℕ) (records : List Record) : Type 0 where
  pub text : List ℕ
  pub names : Stands choice digest text
  pub choices : AreChoices text
  pub stands : Stands (pick (named_in text) first second) digest (records_bytes records)

-- each image of a disk stands for a text, with 0 at its first gate that isn't open
abbrev pub HoldsText : {D : Type 0} → (D → List ℕ → Type 0) → List ℕ → List ℕ → D → Type 0
HoldsText may_leave digest text disk = (place : ℕ) × AllShut (may_leave disk) digest text place

-- the three disks of a prepared switch, its digest, the number that is to be named, and the lengths
-- of what counts of the records, and of the records
pub record Made (D : Type 0) : Type 0 where
  pub files : Files D
  pub digest : List ℕ
  pub other : ℕ
  pub kept : ℕ
  pub of : ℕ

-- CHOICE holds a text, the journal that it names holds records, and the other journal what counts
-- of them
pub record IsPrepared {D : Type 0} (may_leave : D → List ℕ → Type 0) (text : List ℕ)
    (records : List Record) (made : Made D)
    : Type 0 where
  pub choice : HoldsText may_leave made.digest text made.files.choice
  pub choices : AreChoices text
  pub other : made.other ≡ other_of (named_in text)
  pub chosen : HoldsText may_leave made.digest (records_bytes records)
      (journal_at (named_in text) made.files)
  pub thin : HoldsText may_leave made.digest (records_bytes (thinned records))
      (journal_at (other_of (named_in text)) made.files)
  pub spelled : AreRecords records
  pub of : made.of ≡ length records
  pub kept : made.kept ≡ length (thinned records)

-- for some text and records
abbrev pub HasPrepared : {D : Type 0} → (D → List ℕ → Type 0) → Made D → Type 0
HasPrepared may_leave made =
    (text : List ℕ) × (records : List Record) × IsPrepared may_leave text records made

-- the three disks that `prepare` leaves
abbrev pub files_then : {D E : Type 0} → Result (Made D) (Files D × E) → Files D
files_then (Ok made) = made.files
files_then (Err refused) = refused.0
