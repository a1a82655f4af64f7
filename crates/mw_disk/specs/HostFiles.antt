-- What a file of the system shows.
use Rattle.mw_disk.specs.FileLogs.{FileLog}
use Rattle.mw_disk.specs.declared.host_file.HostFile.{HostFile}

-- the record of its calls
abbrev pub host_log : HostFile → FileLog
host_log f = f.log
