-- Files in memory, some of which were opened as disks.
use Rattle.std.specs.Prelude.{◌≡◌, ℕ, List, [], Option, Some, None, Bool, false, true, unwrap_or}
use Rattle.mw_disk.specs.Calls.{DiskHistory, IsImage, bytes_of}
use Rattle.mw_edges.specs.Files.{entry_of}
use Rattle.mw_edges.specs.declared.disks.KeptDisk.{KeptDisk}

-- whether a disk is open
abbrev pub is_open_disk : Option KeptDisk → Bool
is_open_disk None = false
is_open_disk (Some kept) = kept.opened

-- the disk that was closed last, where the file was not written since
abbrev pub closed_disk : Option KeptDisk → Option DiskHistory
closed_disk None = None
closed_disk (Some kept) = kept.closed

-- whether a disk of a name is open
abbrev pub is_open_in : List (List ℕ × KeptDisk) → List ℕ → Bool
is_open_in disks name = is_open_disk (entry_of disks name)

-- the disk of a name that was closed last, where its file was not written since
abbrev pub closed_of : List (List ℕ × KeptDisk) → List ℕ → Option DiskHistory
closed_of disks name = closed_disk (entry_of disks name)

-- the bytes of a closed disk, or else those of a file
abbrev pub last_bytes : Option DiskHistory → Option (List ℕ) → Option (List ℕ)
last_bytes None file = file
last_bytes (Some disk) file = Some (bytes_of disk.start disk.calls)

-- what a crash may leave: of a closed disk what it may leave of that; of a file in memory, which is
-- safe, its bytes; where there is no file, no bytes
abbrev pub IsLastImage : Option DiskHistory → Option (List ℕ) → List ℕ → Type 0
IsLastImage None file c = c ≡ unwrap_or file []
IsLastImage (Some disk) file c = IsImage disk.start disk.calls c

-- the bytes of a name
abbrev pub shown_file : List (List ℕ × List ℕ) → List (List ℕ × KeptDisk) → List ℕ
    → Option (List ℕ)
shown_file files disks name = last_bytes (closed_of disks name) (entry_of files name)

-- what a crash may leave of them
abbrev pub IsFileImage : List (List ℕ × List ℕ) → List (List ℕ × KeptDisk) → List ℕ → List ℕ
    → Type 0
IsFileImage files disks name c =
    IsLastImage (closed_of disks name) (entry_of files name) c

-- what a folder tells of a name, whose files are these and no others
abbrev pub told_file : List (List ℕ × List ℕ) → List (List ℕ × KeptDisk) → List ℕ
    → Option (Option (List ℕ))
told_file files disks name = Some (shown_file files disks name)

-- the same, of a folder in which each file that isn't among these is there and empty
abbrev pub steady_file : List (List ℕ × List ℕ) → List (List ℕ × KeptDisk) → List ℕ
    → Option (Option (List ℕ))
steady_file files disks name = Some (Some (unwrap_or (shown_file files disks name) []))

-- what is kept of a name once a disk of it is opened, or its file is written
abbrev pub opened_disk : Option KeptDisk → KeptDisk
opened_disk kept = record { opened = true; closed = closed_disk kept }

abbrev pub written_disk : Option KeptDisk → Option KeptDisk
written_disk None = None
written_disk (Some kept) = Some (record { opened = kept.opened; closed = None })
