-- The three files of a pair room in a folder, opened as disks and closed.
use Rattle.std.specs.Prelude.{◌≡◌, ◌<◌, ◌≤◌, ℕ, List, Bool, true, false, Option}
use Rattle.mw_disk.specs.Crash.{Stays}
use Rattle.mw_edges.specs.Causes.{Rose}
use Rattle.mw_edges.specs.Files.{open_file}
use Rattle.mw_edges.specs.Folders.{SameImages, StaysOrIsMade, opened_bytes}
use Rattle.mw_checkpoint.specs.declared.error.PairError.{PairError}
use Rattle.mw_checkpoint.specs.declared.error.PairError.TheVariants.{DiskFault, NotEmpty, NotJournal, OtherSeed, BadChoice, BadRecord, ChoiceFull, Memory}
use Rattle.mw_checkpoint.specs.declared.files.Files.{Files}
use Rattle.mw_pair.specs.Names.{IsOther, file_names}

-- ---- errors

-- a disk or the folder failed
abbrev pub IsFault : PairError → Type 0
IsFault (DiskFault place) = Unit {0}
IsFault (NotEmpty place) = ⊥
IsFault (NotJournal place at) = ⊥
IsFault (OtherSeed place found) = ⊥
IsFault (BadChoice at) = ⊥
IsFault (BadRecord at) = ⊥
IsFault (ChoiceFull len) = ⊥
IsFault Memory = ⊥

-- it isn't about the bytes of a file: a fault, or want of memory
abbrev pub IsOpening : PairError → Type 0
IsOpening (DiskFault place) = Unit {0}
IsOpening (NotEmpty place) = ⊥
IsOpening (NotJournal place at) = ⊥
IsOpening (OtherSeed place found) = ⊥
IsOpening (BadChoice at) = ⊥
IsOpening (BadRecord at) = ⊥
IsOpening (ChoiceFull len) = ⊥
IsOpening Memory = Unit {0}

-- ---- files that were touched at most

-- a file was opened at most: it is as it was, or is made empty where it wasn't there, and a crash
-- leaves of it only what it might have left; it is open as a disk just where it was
pub record IsOpenedAtMost (before after : Option (Option (List ℕ)))
    (might_leave may_leave : List ℕ → Type 0) (was_open is_open : Bool)
    : Type 0 where
  pub told : StaysOrIsMade before after
  pub crash : Stays might_leave may_leave
  pub opened : is_open ≡ was_open

-- each file was
abbrev pub AreOpenedAtMost : (before after : List ℕ → Option (Option (List ℕ)))
    → (might_leave may_leave : List ℕ → List ℕ → Type 0) → (was_open is_open : List ℕ → Bool)
    → Type 0
AreOpenedAtMost before after might_leave may_leave was_open is_open = (n : List ℕ)
    → IsOpenedAtMost (before n) (after n) (might_leave n) (may_leave n) (was_open n) (is_open n)

-- what is told of a file is as it was, and what a crash may leave of it; and it is open as a disk
-- just where it was
pub record IsUnmoved (before after : Option (Option (List ℕ)))
    (might_leave may_leave : List ℕ → Type 0) (was_open is_open : Bool)
    : Type 0 where
  pub told : after ≡ before
  pub crash : SameImages might_leave may_leave
  pub opened : is_open ≡ was_open

-- so it is of all files but the three
abbrev pub OthersStay : (before after : List ℕ → Option (Option (List ℕ)))
    → (might_leave may_leave : List ℕ → List ℕ → Type 0) → (was_open is_open : List ℕ → Bool)
    → List ℕ → Type 0
OthersStay before after might_leave may_leave was_open is_open choice = (n : List ℕ)
    → IsOther choice n
    → IsUnmoved (before n) (after n) (might_leave n) (may_leave n) (was_open n) (is_open n)

-- ---- open and closed

-- of each of three files, what is so of it and of what stands for it
pub record OnFiles {A B : Type 0} (R : A → B → Type 0) (first : Files A) (second : Files B)
    : Type 0 where
  pub choice : R first.choice second.choice
  pub zero : R first.zero second.zero
  pub one : R first.one second.one

-- a disk of each of the three is open
pub record AreOpen (is_open : List ℕ → Bool) (choice : List ℕ) : Type 0 where
  pub choice_open : is_open choice ≡ true
  pub first_open : is_open (file_names choice).zero ≡ true
  pub second_open : is_open (file_names choice).one ≡ true

-- none of them is
pub record AreShut (is_open : List ℕ → Bool) (choice : List ℕ) : Type 0 where
  pub choice_shut : is_open choice ≡ false
  pub first_shut : is_open (file_names choice).zero ≡ false
  pub second_shut : is_open (file_names choice).one ≡ false

-- a disk tells what its file held, a crash leaves of it only what it might leave of the file, and it
-- hasn't failed
pub record IsOpened {D : Type 0} (told : D → Option (List ℕ)) (may_leave : D → List ℕ → Type 0)
    (faults : D → ℕ) (file : Option (Option (List ℕ))) (images : List ℕ → Type 0) (disk : D)
    : Type 0 where
  pub tells : told disk ≡ opened_bytes file
  pub left : Stays images (may_leave disk)
  pub fresh : faults disk ≡ 0

-- so it is with the disks of the three
abbrev pub ArePairOpened : {D : Type 0} → (D → Option (List ℕ)) → (D → List ℕ → Type 0) → (D → ℕ)
    → (List ℕ → Option (Option (List ℕ))) → (List ℕ → List ℕ → Type 0) → List ℕ → Files D → Type 0
ArePairOpened told may_leave faults holds images choice files =
    OnFiles (λ name disk. IsOpened told may_leave faults (holds name) (images name) disk)
    (file_names choice) files

-- a file is as the disk that was closed
pub record IsClosed {D : Type 0} (told : D → Option (List ℕ)) (may_leave : D → List ℕ → Type 0)
    (file : Option (Option (List ℕ))) (images : List ℕ → Type 0) (is_open : Bool) (disk : D)
    : Type 0 where
  pub tells : file ≡ open_file (told disk)
  pub left : SameImages (may_leave disk) images
  pub shut : is_open ≡ false

-- so it is with the three
abbrev pub ArePairClosed : {D : Type 0} → (D → Option (List ℕ)) → (D → List ℕ → Type 0)
    → (List ℕ → Option (Option (List ℕ))) → (List ℕ → List ℕ → Type 0) → (List ℕ → Bool) → List ℕ
    → Files D → Type 0
ArePairClosed told may_leave holds images is_open choice files =
    OnFiles (λ name disk.
    IsClosed told may_leave (holds name) (images name) (is_open name) disk)
    (file_names choice) files

-- the folder's count rises where one of three disks has failed, and never falls
pub record PassesAll {D : Type 0} (faults : D → ℕ) (files : Files D) (before after : ℕ)
    : Type 0 where
  pub later : before ≤ after
  pub choice : 0 < faults files.choice → Rose before after
  pub zero : 0 < faults files.zero → Rose before after
  pub one : 0 < faults files.one → Rose before after
