-- A pair room in a folder, opened to be played.
use Rattle.std.specs.Prelude.{◌≡◌, ◌⊎◌, ◌<◌, ◌≤◌, ℕ, List, ◌++◌, Bool, Option, Some, is_some}
use Rattle.mw_edges.specs.Causes.{Rose}
use Rattle.mw_edges.specs.Folders.{opened_bytes}
use Rattle.mw_journal.specs.Image.{Stands}
use Rattle.mw_journal.specs.Settled.{AllSettled}
use Rattle.mw_checkpoint.specs.Choices.{AreChoices, named_in}
use Rattle.mw_checkpoint.specs.Chosen.{IsChosen, ReadsChoice}
use Rattle.mw_checkpoint.specs.Pair.{journal_at, other_of}
use Rattle.mw_checkpoint.specs.Refused.{RefusesChosen}
use Rattle.mw_checkpoint.specs.declared.error.PairError.{PairError}
use Rattle.mw_checkpoint.specs.declared.files.Files.{Files}
use Rattle.mw_pair.specs.Folders.{IsClosed, IsOpened, IsOpenedAtMost, IsOpening}
use Rattle.mw_pair.specs.Names.{journal_name}
use Rattle.mw_pair.specs.declared.choosing.Chosen.{Chosen}

-- CHOICE stood under a digest for a text of bytes 0 and 1 whose last one, or 0, is this number; where
-- its images were settled for a text and a batch, for that text or for it with the batch
pub record NamesJournal (told : Option (List ℕ)) (images : List ℕ → Type 0) (digest : List ℕ)
    (number : ℕ)
    : Type 0 where
  pub text : List ℕ
  pub names : (f : List ℕ) → told ≡ Some f → Stands f digest text
  pub one : (f front body : List ℕ) → told ≡ Some f → AllSettled images digest front body
      → (text ≡ front) ⊎ (text ≡ front ++ body)
  pub choices : AreChoices text
  pub last : number ≡ named_in text

-- what a crash may leave of a file is settled as before
abbrev pub StaysSettled : (List ℕ → Type 0) → (List ℕ → Type 0) → List ℕ → Type 0
StaysSettled might_leave may_leave digest = (text body : List ℕ)
    → AllSettled might_leave digest text body → AllSettled may_leave digest text body

-- the disks of a room whose files told and might leave so: those of the journals, by whether CHOICE
-- names them, are as they were opened, and that of CHOICE was opened as a journal
pub record IsOpenedRoom {D : Type 0} (told : D → Option (List ℕ))
    (may_leave : D → List ℕ → Type 0) (faults : D → ℕ)
    (holds : List ℕ → Option (Option (List ℕ))) (images : List ℕ → List ℕ → Type 0)
    (choice digest : List ℕ) (room : Chosen D)
    : Type 0 where
  pub names : NamesJournal (opened_bytes (holds choice)) (images choice) digest room.named
  pub journal : IsOpened told may_leave faults (holds (journal_name choice room.named))
      (images (journal_name choice room.named)) room.journal
  pub other : IsOpened told may_leave faults (holds (journal_name choice (other_of room.named)))
      (images (journal_name choice (other_of room.named))) room.other
  pub settled : StaysSettled (images choice) (may_leave room.choice) digest
  pub chosen : IsChosen may_leave digest room.named room.choice
  pub tells : is_some (told room.choice) ≡ is_some (opened_bytes (holds choice))

-- the files of a room are as its disks were
pub record IsClosedRoom {D : Type 0} (told : D → Option (List ℕ))
    (may_leave : D → List ℕ → Type 0) (holds : List ℕ → Option (Option (List ℕ)))
    (images : List ℕ → List ℕ → Type 0) (is_open : List ℕ → Bool) (choice : List ℕ)
    (room : Chosen D)
    : Type 0 where
  pub own : IsClosed told may_leave (holds choice) (images choice) (is_open choice) room.choice
  pub journal : IsClosed told may_leave (holds (journal_name choice room.named))
      (images (journal_name choice room.named)) (is_open (journal_name choice room.named))
      room.journal
  pub other : IsClosed told may_leave (holds (journal_name choice (other_of room.named)))
      (images (journal_name choice (other_of room.named)))
      (is_open (journal_name choice (other_of room.named))) room.other

-- the folder's count rises where one of the disks has failed, and never falls
pub record PassesRoom {D : Type 0} (faults : D → ℕ) (room : Chosen D) (before after : ℕ)
    : Type 0 where
  pub later : before ≤ after
  pub own : 0 < faults room.choice → Rose before after
  pub journal : 0 < faults room.journal → Rose before after

-- why CHOICE names no journal: a file isn't opened, or memory is wanting; or it is of CHOICE
abbrev pub RefusesChoice : (List ℕ → Option (Option (List ℕ))) → List ℕ → List ℕ → PairError
    → Type 0
RefusesChoice before choice digest error = IsOpening error
    ⊎ ((was : ℕ) × (now : ℕ) × RefusesChosen (opened_bytes (before choice)) digest was now error)

-- of three open disks, those of a room that is played: CHOICE was opened as a journal, and the
-- journals are as they were
pub record Chooses {D : Type 0} (told : D → Option (List ℕ)) (may_leave : D → List ℕ → Type 0)
    (digest : List ℕ) (files : Files D) (room : Chosen D)
    : Type 0 where
  pub reads : ReadsChoice told may_leave digest files.choice room.choice room.named
  pub journal : room.journal ≡ journal_at room.named files
  pub other : room.other ≡ journal_at (other_of room.named) files
  pub settled : StaysSettled (may_leave files.choice) (may_leave room.choice) digest
  pub tells : is_some (told room.choice) ≡ is_some (told files.choice)

-- or CHOICE names no journal
pub record ChoosesNone {D : Type 0} (told : D → Option (List ℕ))
    (may_leave : D → List ℕ → Type 0) (faults : D → ℕ) (digest : List ℕ) (before after : Files D)
    (error : PairError)
    : Type 0 where
  pub refused : RefusesChosen (told before.choice) digest (faults before.choice)
      (faults after.choice) error
  pub zero : after.zero ≡ before.zero
  pub one : after.one ≡ before.one
  pub settled : StaysSettled (may_leave before.choice) (may_leave after.choice) digest
  pub tells : is_some (told after.choice) ≡ is_some (told before.choice)

-- the files of a room that isn't played: CHOICE is settled as it was, and told where it was, and
-- the journals were opened at most
pub record IsUnplayed (before after : List ℕ → Option (Option (List ℕ)))
    (might_leave may_leave : List ℕ → List ℕ → Type 0) (was_open is_open : List ℕ → Bool)
    (choice digest : List ℕ)
    : Type 0 where
  pub settled : StaysSettled (might_leave choice) (may_leave choice) digest
  pub tells : is_some (opened_bytes (after choice)) ≡ is_some (opened_bytes (before choice))
  pub opened : is_open choice ≡ was_open choice
  pub journals : (number : ℕ) → IsOpenedAtMost (before (journal_name choice number))
      (after (journal_name choice number)) (might_leave (journal_name choice number))
      (may_leave (journal_name choice number)) (was_open (journal_name choice number))
      (is_open (journal_name choice number))
