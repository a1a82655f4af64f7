-- A link over a stream of the network, a gate that gives such links, and a file in memory may cross
-- threads.
use denote.RattleType.{RattleType}
use denote.Param.Send.{IsSend, sendable}
use Rattle.std.proofs.Crossing.{crosses}
use Rattle.std.specs.contracts.net.TcpStream as tcp
use Rattle.std.specs.declared.io.Read.{Ghosts as ReadGhosts}
use Rattle.std.specs.declared.io.Write.{Ghosts as WriteGhosts}
use Rattle.tungstenite.specs.contracts.protocol.WebSocket as web
use Rattle.tungstenite.specs.contracts.NoMask as mask
use Rattle.mw_disk.specs.contracts.event_log.EventLog as events
use Rattle.mw_disk.specs.contracts.history.History as history
use Rattle.mw_disk.specs.contracts.memory_file.MemoryFile as file
use Rattle.mw_disk.specs.contracts.seen.Seen as seen
use Rattle.mw_link.specs.contracts.log.Log as log
use Rattle.mw_link.specs.contracts.side.Accepted as accepted
use Rattle.mw_link.specs.contracts.polled.PolledStream as polled
use Rattle.mw_link.specs.contracts.socket.Stage as stage
use Rattle.mw_link.specs.contracts.socket.SocketLink as socket

log_send : (T : RattleType) → IsSend (log.the_row T)
log_send T = search (sendable, crosses) depth 30

pub tcp_send : IsSend tcp.the_row
tcp_send = search (sendable, crosses) depth 30

polled_send : (S : RattleType) → IsSend S → IsSend (polled.the_row S)
polled_send S s = search sendable depth 30

talk_send : (S : RattleType) → IsSend S → IsSend (web.the_row S mask.the_row)
talk_send S s = search (sendable, crosses) depth 60 fits 20000

module _ (S : RattleType) (g : ReadGhosts S.Denot) (h : WriteGhosts S.Denot) where
  stage_send : IsSend S → IsSend (stage.the_row S accepted.the_row mask.the_row)
  stage_send s = let t = talk_send (polled.the_row S) (polled_send S s) in search (sendable, crosses) depth 40

  pub socket_send : IsSend S → IsSend (socket.the_row S accepted.the_row mask.the_row g h)
  socket_send s = let st = stage_send s in search (sendable, crosses, log_send) depth 80 fits 20000

history_send : (T : RattleType) → IsSend (history.the_row T)
history_send T = search (sendable, crosses) depth 30

seen_send : IsSend seen.the_row
seen_send = search (sendable, crosses) depth 30

events_send : IsSend events.the_row
events_send = search (sendable, crosses, history_send, seen_send) depth 40

pub file_send : IsSend file.the_row
file_send = search (sendable, crosses, events_send) depth 60 fits 20000
