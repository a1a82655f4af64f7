use Rattle.std.proofs.Common.{◌≡◌, ◌++◌, drop}
use Rattle.mw_protocol.specs.Players.{games_played}
use Rattle.mw_room.proofs.people.games_played.Given as goal

abbrev pub invariant-loop-game : goal.invariant-loop-game
invariant-loop-game l = l.found ++ games_played l.slots (drop l.game-index l.games) ≡ games_played l.slots l.games
