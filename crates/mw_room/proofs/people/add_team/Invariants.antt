use Rattle.std.proofs.Common.{◌≡◌, ◌+◌, ◌++◌, drop}
use Rattle.mw_protocol.specs.Players.{team_players}
use Rattle.mw_room.proofs.people.add_team.Given as goal

abbrev pub invariant-loop-before : goal.invariant-loop-before
invariant-loop-before l = l.found ++ team_players l.team (l.before + 1) (drop l.before l.slots) ≡ l.initial.found ++ team_players l.team 1 l.slots
