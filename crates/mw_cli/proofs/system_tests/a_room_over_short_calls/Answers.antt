use denote.Param.Send.{sendable}
use Rattle.std.proofs.Crossing.{crosses}
use Rattle.mw_cli.proofs.Crosses.{file_send}
use Rattle.mw_cli.proofs.system_tests.a_room_over_short_calls.Goals as goal

pub runs_over-requires-send-F-Drive : goal.runs_over-requires-send-F-Drive
runs_over-requires-send-F-Drive c κs = search (sendable, crosses, file_send) depth 60 fits 20000
