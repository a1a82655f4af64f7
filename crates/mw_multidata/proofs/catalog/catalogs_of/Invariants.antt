use Rattle.std.proofs.Common.{◌≡◌, drop}
use Rattle.mw_multidata.specs.Names.{games_named}
use Rattle.mw_json.proofs.Fronts.{with_front}
use Rattle.mw_multidata.proofs.catalog.catalogs_of.Given as goal

abbrev pub invariant-loop-game : goal.invariant-loop-game
invariant-loop-game l = with_front l.catalogs (games_named (drop l.game-index l.games)) ≡ games_named l.games
