-- What a file whose calls are kept shows.
use Rattle.mw_disk.specs.declared.recorded_file.RecordedFile.{RecordedFile}
use Rattle.mw_disk.specs.declared.file_calls.FileCalls.{Ghosts}

-- the open file
abbrev pub recorded_of : {C : Type 0} {g : Ghosts C} → RecordedFile C g → C
recorded_of f = f.calls
