use Rattle.std.proofs.Common.{◌≡◌, drop}
use Rattle.mw_multidata.specs.Names.{find_game}
use Rattle.mw_datapack.proofs.played.find.Given as goal

-- it is the first of those that are left
abbrev pub invariant-loop-game : goal.invariant-loop-game
invariant-loop-game l = find_game l.games l.name ≡ find_game (drop l.game-index l.games) l.name
