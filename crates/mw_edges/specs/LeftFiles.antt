-- What a system in memory tells of its files.
use Rattle.std.specs.Prelude.{◌≡◌, ℕ, List, [], Option, Some, None}
use Rattle.mw_disk.specs.FileLogs.{FileLog, Leaves, state_of}
use Rattle.mw_edges.specs.Files.{entry_of}

-- files by name, each the record of the last one that was closed or written by that name, the newest
-- first
abbrev pub FilesLeft : Type 0
FilesLeft = List (List ℕ × FileLog)

-- the bytes that a file was left with
abbrev pub bytes_left : Option FileLog → Option (List ℕ)
bytes_left None = None
bytes_left (Some log) = Some (state_of log).bytes

-- what a crash may leave of it; of one that isn't there, no bytes
abbrev pub IsLeftImage : Option FileLog → List ℕ → Type 0
IsLeftImage None c = c ≡ []
IsLeftImage (Some log) c = Leaves log c

-- what is told of a name
abbrev pub left_file : FilesLeft → List ℕ → Option (Option (List ℕ))
left_file files name = Some (bytes_left (entry_of files name))

-- what a crash may leave of the file of a name
abbrev pub MayBeLeft : FilesLeft → List ℕ → List ℕ → Type 0
MayBeLeft files name c = IsLeftImage (entry_of files name) c

-- entries of bytes are those of the files
abbrev pub HoldsFiles : List (List ℕ × List ℕ) → FilesLeft → Type 0
HoldsFiles entries files =
    (name : List ℕ) → entry_of entries name ≡ bytes_left (entry_of files name)
