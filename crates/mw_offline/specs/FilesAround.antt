-- What a folder told of its files before a command, and what it tells after it.
use Rattle.std.specs.Prelude.{◌≡◌, ◌≢◌, ℕ, List, Bool}
use Rattle.mw_disk.specs.Crash.{Stays}
use Rattle.mw_edges.specs.Folders.{SameImages}
use Rattle.mw_causes.specs.Wrote.{SameBut}
use Rattle.mw_causes.specs.Tables.{Files}

-- what a folder told of each file and tells now, what a crash might have left of each and may leave
-- now, of which a disk was open and is, whether a read might fail where its file is there, and how
-- often the folder had failed and has
pub record FilesAround : Type 1 where
  pub before : Files
  pub after : Files
  pub might_leave : List ℕ → List ℕ → Type 0
  pub may_leave : List ℕ → List ℕ → Type 0
  pub was_open : List ℕ → Bool
  pub is_open : List ℕ → Bool
  pub may_fail : Bool
  pub failed_before : ℕ
  pub failed : ℕ

-- the same of a folder, before and after, which tells so
abbrev pub files_around : {F : Type 0} → (F → Files) → (F → List ℕ → List ℕ → Type 0)
    → (F → List ℕ → Bool) → (F → Bool) → (F → ℕ) → F → F → FilesAround
files_around holds images opened may_fail faults old new = record {
  before = holds old;
  after = holds new;
  might_leave = images old;
  may_leave = images new;
  was_open = opened old;
  is_open = opened new;
  may_fail = may_fail old;
  failed_before = faults old;
  failed = faults new;
}

-- each file but this one is as it was, and so is what a crash may leave of it; just those files are
-- open as disks that were
pub record OthersStay (files : FilesAround) (name : List ℕ) : Type 0 where
  pub told : SameBut name files.before files.after
  pub crash : (n : List ℕ) → n ≢ name → SameImages (files.might_leave n) (files.may_leave n)
  pub opened : (n : List ℕ) → files.is_open n ≡ files.was_open n

-- a file is as it was, and so is what a crash may leave of it
pub record IsUntouched (files : FilesAround) (name : List ℕ) : Type 0 where
  pub told : files.after name ≡ files.before name
  pub crash : SameImages (files.might_leave name) (files.may_leave name)

-- a file was read at most: it is as it was, and a crash leaves of it only what it might have left
pub record IsOnlyRead (files : FilesAround) (name : List ℕ) : Type 0 where
  pub told : files.after name ≡ files.before name
  pub crash : Stays (files.might_leave name) (files.may_leave name)
