-- What a file in memory shows.
use Rattle.mw_disk.specs.FileLogs.{FileLog}
use Rattle.mw_disk.specs.declared.memory_file.MemoryFile.{MemoryFile}

-- the record of its calls
abbrev pub log_of : MemoryFile → FileLog
log_of f = f.log
