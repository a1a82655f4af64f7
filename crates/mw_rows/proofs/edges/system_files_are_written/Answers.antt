use denote.Param.Send.{sendable}
use Rattle.std.proofs.Crossing.{crosses}
use Rattle.mw_disk.proofs.HostFiles.{host_send}
use Rattle.mw_rows.proofs.edges.system_files_are_written.Goals as goal

pub puts_file-requires-send-F-Drive : goal.puts_file-requires-send-F-Drive
puts_file-requires-send-F-Drive c κs = search (sendable, crosses, host_send) depth 60 fits 20000

pub puts_file-requires-2-send-F-Drive : goal.puts_file-requires-2-send-F-Drive
puts_file-requires-2-send-F-Drive c κs = search (sendable, crosses, host_send) depth 60 fits 20000
