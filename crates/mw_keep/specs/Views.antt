-- Calls and replies as plain data.
use Rattle.std.specs.Prelude.{Option, Some, None, Result, Ok, Err}
use Rattle.mw_protocol.specs.Lives as plain
use Rattle.mw_protocol.specs.Rooms.{opened, sent, failed, lost}
use Rattle.mw_packets_in.specs.View.{packet_view, bad_view}
use Rattle.mw_keep.specs.declared.call.Call.{Call}
use Rattle.mw_keep.specs.declared.call.Call.TheVariants.{Open, Packet, Bad, Lost, Commit, Take}
use Rattle.mw_keep.specs.declared.reply.Reply.{Reply}
use Rattle.mw_keep.specs.declared.reply.Reply.TheVariants.{Opened, Done, Messages, Gone, Overrun, Stopped, Memory}
use Rattle.mw_keep.specs.declared.reply.StopCause.{StopCause}
use Rattle.mw_keep.specs.declared.reply.StopCause.TheVariants.{DiskFault, JournalFull, TooManyCalls}

abbrev pub call_view : Call → plain.Call
call_view (Open time) = plain.happens (opened time)
call_view (Packet session packet) = plain.happens (sent session (packet_view packet))
call_view (Bad session bad) = plain.happens (failed session (bad_view bad))
call_view (Lost session) = plain.happens (lost session)
call_view Commit = plain.commits
call_view (Take session) = plain.takes session

abbrev pub cause_view : StopCause → plain.StopCause
cause_view DiskFault = plain.disk_fault
cause_view (JournalFull len) = plain.journal_full len
cause_view (TooManyCalls count) = plain.too_many_calls count

abbrev pub stopped_view : Option StopCause → Option plain.StopCause
stopped_view None = None
stopped_view (Some cause) = Some (cause_view cause)

abbrev pub reply_view : Reply → plain.Reply
reply_view (Opened session) = plain.opens session
reply_view Done = plain.done
reply_view (Messages texts) = plain.messages texts
reply_view Gone = plain.gone
reply_view Overrun = plain.overrun
reply_view (Stopped cause) = plain.stopped (cause_view cause)
reply_view Memory = plain.memory

-- the answer to a commit, or to why it isn't done
abbrev pub commit_view : Result (Unit {0}) Reply → plain.Reply
commit_view (Ok done) = plain.done
commit_view (Err reply) = reply_view reply
