-- A file in memory may cross threads.
use denote.RattleType.{RattleType}
use denote.Param.Send.{IsSend, sendable}
use Rattle.std.proofs.Crossing.{crosses}
use Rattle.mw_disk.specs.contracts.event_log.EventLog as log
use Rattle.mw_disk.specs.contracts.history.History as history
use Rattle.mw_disk.specs.contracts.memory_file.MemoryFile as file
use Rattle.mw_disk.specs.contracts.seen.Seen as seen

history_send : (T : RattleType) → IsSend (history.the_row T)
history_send T = search (sendable, crosses) depth 30

seen_send : IsSend seen.the_row
seen_send = search (sendable, crosses) depth 30

log_send : IsSend log.the_row
log_send = search (sendable, crosses, history_send, seen_send) depth 40

pub file_send : IsSend file.the_row
file_send = search (sendable, crosses, log_send) depth 60 fits 20000
