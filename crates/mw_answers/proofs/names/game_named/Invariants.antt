use Rattle.std.proofs.Common.{◌≡◌, drop}
use Rattle.mw_protocol.specs.Hints.{game_named}
use Rattle.mw_answers.proofs.names.game_named.Given as goal

-- it is the first of those that are left
abbrev pub invariant-loop-game : goal.invariant-loop-game
invariant-loop-game l = game_named l.name l.games ≡ game_named l.name (drop l.game-index l.games)
