use Rattle.std.proofs.Common.{◌≡◌, drop}
use Rattle.mw_multi.specs.JointOf.{has_game}
use Rattle.mw_multi.proofs.games.has_game.Given as goal

abbrev pub invariant-loop-world : goal.invariant-loop-world
invariant-loop-world l = has_game (drop l.world-index l.worlds) l.game ≡ has_game l.worlds l.game
