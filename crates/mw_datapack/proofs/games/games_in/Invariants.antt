use Rattle.std.proofs.Common.{◌≡◌, ◌++◌, drop, map}
use Rattle.mw_json.specs.View.{member_view}
use Rattle.mw_datapack.specs.Chosen.{chosen_members}
use Rattle.mw_datapack.proofs.games.games_in.Given as goal

abbrev pub invariant-loop-game : goal.invariant-loop-game
invariant-loop-game l = map member_view l.found ++ chosen_members l.slots l.wanted (drop l.game-index l.games) ≡ chosen_members l.slots l.wanted l.games
