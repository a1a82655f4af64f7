use denote.Param.Send.{sendable}
use Rattle.std.proofs.Crossing.{crosses}
use Rattle.mw_rows.proofs.Crosses.{file_send}
use Rattle.mw_rows.proofs.systems.a_system_in_memory_fails.Goals as goal

pub answers-requires-send-F-Drive : goal.answers-requires-send-F-Drive
answers-requires-send-F-Drive c κs = search (sendable, crosses, file_send) depth 60 fits 20000
