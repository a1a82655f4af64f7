-- What folders in memory tell, a crash may leave.
use Rattle.std.specs.Prelude.{◌≡◌, ℕ, List, [], Option, Some, None, unwrap_or}
use Rattle.std.proofs.Common.{ap, sym}
use Rattle.mw_disk.specs.Calls.{DiskHistory}
use Rattle.mw_disk.specs.Laws.{bytes_are_image}
use Rattle.mw_edges.specs.Disks.{last_bytes, IsLastImage, told_file, steady_file, IsFileImage, closed_of}
use Rattle.mw_edges.specs.Files.{entry_of, untold_file, untold_image}
use Rattle.mw_edges.specs.declared.disks.KeptDisk.{KeptDisk}

last_is_image : (closed : Option DiskHistory) (file : Option (List ℕ)) (c : List ℕ)
    → last_bytes closed file ≡ Some c → IsLastImage closed file c
last_is_image None file c is = sym (ap (λ (f : Option (List ℕ)). unwrap_or f []) is)
last_is_image (Some disk) file c is = bytes_are_image disk.start disk.calls c is

pub told_is_image : (files : List (List ℕ × List ℕ)) (disks : List (List ℕ × KeptDisk))
    (name c : List ℕ) → told_file files disks name ≡ Some (Some c) → IsFileImage files disks name c
told_is_image files disks name c is =
    last_is_image (closed_of disks name) (entry_of files name) c cc

pub steady_last : (closed : Option DiskHistory) (file : Option (List ℕ)) (c : List ℕ)
    → unwrap_or (last_bytes closed file) [] ≡ c → IsLastImage closed file c
steady_last None file c is = sym is
steady_last (Some disk) file c is =
    bytes_are_image disk.start disk.calls c (ap (λ (l : List ℕ). Some l) is)

pub steady_is_image : (files : List (List ℕ × List ℕ)) (disks : List (List ℕ × KeptDisk))
    (name c : List ℕ) → steady_file files disks name ≡ Some (Some c)
    → IsFileImage files disks name c
steady_is_image files disks name c is =
    steady_last (closed_of disks name) (entry_of files name) c cc

pub untold_is_image : (name c : List ℕ) → untold_file name ≡ Some (Some c) → untold_image name c
untold_is_image name c is = cc
