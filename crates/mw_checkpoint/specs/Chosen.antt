-- What CHOICE stands for, and the journal that it names.
use Rattle.std.specs.Prelude.{◌≡◌, ◌⊎◌, ℕ, List, ◌++◌, Option, Some, Result, Ok, Err}
use Rattle.mw_journal.specs.Image.{StandsAt}
use Rattle.mw_journal.specs.Settled.{AllShut, AllSettled}
use Rattle.mw_checkpoint.specs.Choices.{AreChoices, named_in}
use Rattle.mw_checkpoint.specs.declared.files.Files.{Files}

-- the three disks that a call leaves, in its answer or handed back
abbrev pub files_left : {D A B : Type 0} → Result (Files D × A) (Files D × B) → Files D
files_left (Ok answer) = answer.0
files_left (Err refused) = refused.0

-- each image of CHOICE stands for one text of bytes 0 and 1, with 0 at its first gate that isn't
-- open, and a number is the text's last byte, or 0
pub record IsChosen {D : Type 0} (may_leave : D → List ℕ → Type 0) (digest : List ℕ) (named : ℕ)
    (choice : D)
    : Type 0 where
  pub text : List ℕ
  pub place : ℕ
  pub shut : AllShut (may_leave choice) digest text place
  pub choices : AreChoices text
  pub last : named ≡ named_in text

-- and this text is the one that was read: that for which the bytes of CHOICE stand, and where each
-- of its images was settled for a text and a batch, this text, or this with the batch
pub record ReadsChoice {D : Type 0} (told : D → Option (List ℕ)) (may_leave : D → List ℕ → Type 0)
    (digest : List ℕ) (before after : D) (named : ℕ)
    : Type 0 where
  pub chosen : IsChosen may_leave digest named after
  pub stands : (f : List ℕ) → told before ≡ Some f
      → StandsAt f digest chosen.text chosen.place
  pub one : (f text body : List ℕ) → told before ≡ Some f
      → AllSettled (may_leave before) digest text body
      → (chosen.text ≡ text) ⊎ (chosen.text ≡ text ++ body)
