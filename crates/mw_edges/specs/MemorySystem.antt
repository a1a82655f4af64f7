-- What a system in memory shows.
use Rattle.mw_edges.specs.LeftFiles.{FilesLeft}
use Rattle.mw_edges.specs.declared.memory_system.MemorySystem.{MemorySystem}

-- the files that were left
abbrev pub files_left : MemorySystem → FilesLeft
files_left s = s.left
