-- What a folder told of the three files of a pair room before a command, and what it tells after it.
use Rattle.std.specs.Prelude.{◌≡◌, ℕ, List, is_some}
use Rattle.mw_edges.specs.Folders.{opened_bytes}
use Rattle.mw_pair.specs.Choosing.{IsUnplayed}
use Rattle.mw_pair.specs.Folders.{OthersStay}
use Rattle.mw_pair.specs.Names.{IsOneOf}
use Rattle.mw_offline.specs.FilesAround.{FilesAround, IsUntouched}

-- all files but the three are as they were, and what a crash may leave of them; and just those of
-- them are open as disks that were
abbrev pub PairOthersStay : FilesAround → List ℕ → Type 0
PairOthersStay files choice =
    OthersStay files.before files.after files.might_leave files.may_leave files.was_open
    files.is_open choice

-- none of the three was touched
abbrev pub PairUntouched : FilesAround → List ℕ → Type 0
PairUntouched files choice = (n : List ℕ) → IsOneOf choice n → IsUntouched files n

-- the room wasn't played
abbrev pub PairUnplayed : FilesAround → List ℕ → List ℕ → Type 0
PairUnplayed files choice digest =
    IsUnplayed files.before files.after files.might_leave files.may_leave files.was_open
    files.is_open choice digest

-- files that were told are told, all but the three are as they were, and just those are open as
-- disks that were
pub record PairLeaves (files : FilesAround) (choice : List ℕ) : Type 0 where
  pub tells : (n : List ℕ)
      → is_some (opened_bytes (files.after n)) ≡ is_some (opened_bytes (files.before n))
  pub others : PairOthersStay files choice
  pub opened : (n : List ℕ) → files.is_open n ≡ files.was_open n
