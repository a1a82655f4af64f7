use Rattle.std.proofs.Common.{◌≡◌, drop}
use Rattle.mw_protocol.specs.Connecting.{team_named}
use Rattle.mw_room.proofs.connect.team_named.Given as goal

abbrev pub invariant-loop-team : goal.invariant-loop-team
invariant-loop-team l = team_named l.name 0 l.names ≡ team_named l.name l.team (drop l.team l.names)
