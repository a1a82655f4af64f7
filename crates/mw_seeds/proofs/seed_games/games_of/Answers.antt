use Rattle.mw_seeds.proofs.SeedGames.{games_sorted}
use Rattle.mw_seeds.proofs.seed_games.games_of.Goals as goal

pub returns : goal.returns
returns c = games_sorted c.args.joint.now.slots c.in_ok-games.games.items c.sorted_games.result c.in_ok-games.ensures c.sorted_games.ensures.same c.sorted_games.ensures.ascend
