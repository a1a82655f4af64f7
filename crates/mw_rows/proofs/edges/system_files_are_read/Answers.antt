use denote.Param.Send.{sendable}
use Rattle.std.proofs.Crossing.{crosses}
use Rattle.mw_disk.proofs.HostFiles.{host_send}
use Rattle.mw_rows.proofs.edges.system_files_are_read.Goals as goal

pub answers-requires-send-F-Drive : goal.answers-requires-send-F-Drive
answers-requires-send-F-Drive c κs = search (sendable, crosses, host_send) depth 60 fits 20000
