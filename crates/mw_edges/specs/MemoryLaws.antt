-- What a system in memory tells, a crash may leave.
use Rattle.std.specs.Prelude.{◌≡◌, ℕ, List, Option, Some, None}
use Rattle.std.proofs.Common.{subst}
use Rattle.mw_disk.specs.FileLaws.{told_leaves}
use Rattle.mw_disk.specs.FileLogs.{FileLog, Leaves, state_of}
use Rattle.mw_edges.specs.Files.{entry_of}
use Rattle.mw_edges.specs.LeftFiles.{FilesLeft, bytes_left, IsLeftImage, left_file, MayBeLeft}

pub left_is_image : (log : Option FileLog) (c : List ℕ) → bytes_left log ≡ Some c → IsLeftImage log c
left_is_image None c is = absurd cc
left_is_image (Some log) c is =
    let same : (state_of log).bytes ≡ c = cc in
    subst (Leaves log) same (told_leaves log)

pub left_may_stay : (files : FilesLeft) (name c : List ℕ) → left_file files name ≡ Some (Some c)
    → MayBeLeft files name c
left_may_stay files name c is = left_is_image (entry_of files name) c cc
