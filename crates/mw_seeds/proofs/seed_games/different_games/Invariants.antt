use Rattle.mw_seeds.proofs.SeedGames.{AreMet}
use Rattle.mw_seeds.proofs.seed_games.different_games.Given as goal

abbrev pub invariant-loop-slot : goal.invariant-loop-slot
invariant-loop-slot l = AreMet l.slot-items l.slot-index l.games.items
