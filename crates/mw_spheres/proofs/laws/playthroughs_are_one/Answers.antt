use Rattle.mw_spheres.proofs.OnePlaythrough.{playthroughs_are_one}
use Rattle.mw_spheres.proofs.laws.playthroughs_are_one.Goals as goal

pub returns : goal.returns
returns c = playthroughs_are_one
