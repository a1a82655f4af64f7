-- When no run on a pair room refuses one of its files.
use Rattle.std.specs.Prelude.{◌≡◌, ℕ, List, Option, Some}
use Rattle.mw_causes.specs.Tables.{Files}
use Rattle.mw_checkpoint.specs.Choices.{AreChoices}
use Rattle.mw_checkpoint.specs.Switching.{IsOutsideOrFull}
use Rattle.mw_checkpoint.specs.declared.error.PairError.{PairError}
use Rattle.mw_drive.specs.Ends.{Refuses}
use Rattle.mw_drive.specs.declared.error.JournalRefusal.{JournalRefusal}
use Rattle.mw_edges.specs.Folders.{opened_bytes}
use Rattle.mw_journal.specs.Settled.{AllSettled}
use Rattle.mw_keep.specs.Entered.{AreSound}
use Rattle.mw_model.specs.Seed.{Seed}
use Rattle.mw_pair.specs.Choosing.{NamesJournal, RefusesChoice}
use Rattle.mw_pair.specs.Folders.{IsOpening}
use Rattle.mw_pair.specs.Names.{IsOneOf, journal_name}
use Rattle.mw_pair.specs.Thinning.{RefusesThin}
use Rattle.mw_protocol.specs.Records.{Record}
use Rattle.mw_protocol.specs.Spelled.{records_bytes}

-- what a crash may leave of CHOICE is settled for bytes 0 and 1, as `chosen` asks for
pub record IsSettledChoice (images : List ℕ → Type 0) (digest : List ℕ) : Type 0 where
  pub text : List ℕ
  pub body : List ℕ
  pub texts : AreChoices text
  pub bodies : AreChoices body
  pub settled : AllSettled images digest text body

-- what it may leave of a journal is settled for records that have spellings and name only what the
-- seed has, as `resume` asks for
pub record IsSettledJournal (images : List ℕ → Type 0) (digest : List ℕ) (seed : Seed)
    : Type 0 where
  pub kept : List Record
  pub batch : List Record
  pub first : AreSound seed kept
  pub more : AreSound seed batch
  pub settled : AllSettled images digest (records_bytes kept) (records_bytes batch)

-- a file is there, and its bytes are told
abbrev pub IsThere : Option (Option (List ℕ)) → Type 0
IsThere file = (f : List ℕ) × (file ≡ Some (Some f))

-- of the pair room of CHOICE, in a folder that tells so what its files hold and what a crash may
-- leave of them
module _ (holds : Files) (images : List ℕ → List ℕ → Type 0) (choice digest : List ℕ) (seed : Seed)
  where
    -- no run refuses one of the three files for its bytes
    pub record RefusesNone : Type 0 where
      -- CHOICE: only a fault or want of memory keeps `drive --pair` and `serve --pair` from it
      pub choosing : (error : PairError) → RefusesChoice holds choice digest error
          → IsOpening error
      -- the journal that it names: they refuse it for nothing
      pub playing : (number : ℕ) (refusal : JournalRefusal)
          → NamesJournal (opened_bytes (holds choice)) (images choice) digest number
          → Refuses (opened_bytes (holds (journal_name choice number))) digest seed refusal → ⊥
      -- any of them: `thin` has no error but these two, and that CHOICE is full
      pub thinning : (error : PairError) → RefusesThin holds choice digest error
          → IsOutsideOrFull error

    -- what a crash may leave of CHOICE, and of whichever journal it names, is settled so that a run
    -- accepts them; and where the files are there no run refuses one
    pub record AcceptsPair : Type 0 where
      pub own : IsSettledChoice (images choice) digest
      pub journal : (number : ℕ)
          → NamesJournal (opened_bytes (holds choice)) (images choice) digest number
          → IsSettledJournal (images (journal_name choice number)) digest seed
      pub none : ((n : List ℕ) → IsOneOf choice n → IsThere (holds n)) → RefusesNone
