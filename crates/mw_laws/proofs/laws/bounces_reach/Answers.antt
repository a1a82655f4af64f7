use Rattle.mw_laws.proofs.Quiet.{bounces_reach}
use Rattle.mw_laws.proofs.laws.bounces_reach.Goals as goal

pub returns : goal.returns
returns c = bounces_reach
