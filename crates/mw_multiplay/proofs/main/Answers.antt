use denote.Param.Send.{sendable}
use Rattle.std.proofs.Crossing.{crosses}
use Rattle.mw_disk.proofs.HostFiles.{host_send}
use Rattle.mw_multiplay.proofs.main.Goals as goal

pub run_play-status-requires-send-F-Drive : goal.run_play-status-requires-send-F-Drive
run_play-status-requires-send-F-Drive c κs = search (sendable, crosses, host_send) depth 60 fits 20000
