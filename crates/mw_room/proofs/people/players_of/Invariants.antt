use Rattle.std.proofs.Common.{◌≡◌}
use Rattle.mw_protocol.specs.Players.{players_of}
use Rattle.mw_room.proofs.people.players_of.Given as goal

abbrev pub invariant-loop-team : goal.invariant-loop-team
invariant-loop-team l = l.found ≡ players_of l.team l.slots
