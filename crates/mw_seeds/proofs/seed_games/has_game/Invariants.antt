use Rattle.std.proofs.Common.{◌≡◌, drop}
use Rattle.mw_seeds.specs.GamesMet.{has_game}
use Rattle.mw_seeds.proofs.seed_games.has_game.Given as goal

abbrev pub invariant-loop-game : goal.invariant-loop-game
invariant-loop-game l = has_game l.games l.name ≡ has_game (drop l.game-index l.games) l.name
