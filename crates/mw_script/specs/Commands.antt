-- What a line of a script asks for.
use Rattle.std.specs.Prelude.{ℕ, List, map}
use Rattle.mw_protocol.specs.Packets.{Inbound}
use Rattle.mw_packets_in.specs.View.{inbound_view}
use Rattle.mw_script.specs.declared.command.Command as code
use Rattle.mw_script.specs.declared.command.Command.TheVariants.{Open, Send, Take, Lose, Commit, Crash}

pub data Command : Type 0 where
  -- a session is opened at a time
  opens : ℕ → Command
  -- a session sends a message of these elements
  sends : ℕ → List Inbound → Command
  -- a session's untaken messages are taken
  takes : ℕ → Command
  -- a session is lost
  loses : ℕ → Command
  -- what is recorded is made safe
  commits : Command
  -- the room is dropped, and recovered from its journal
  crashes : Command

-- a command as plain data
abbrev pub command_view : code.Command → Command
command_view (Open time) = opens time
command_view (Send session message) = sends session (map inbound_view message)
command_view (Take session) = takes session
command_view (Lose session) = loses session
command_view Commit = commits
command_view Crash = crashes
