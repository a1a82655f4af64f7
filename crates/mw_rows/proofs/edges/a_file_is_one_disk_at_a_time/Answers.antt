use denote.Param.Send.{sendable}
use Rattle.std.proofs.Crossing.{crosses}
use Rattle.mw_disk.proofs.HostFiles.{host_send}
use Rattle.mw_rows.proofs.edges.a_file_is_one_disk_at_a_time.Goals as goal

pub is_held-requires-send-F-Drive : goal.is_held-requires-send-F-Drive
is_held-requires-send-F-Drive g c κs = search (sendable, crosses, host_send) depth 60 fits 20000
