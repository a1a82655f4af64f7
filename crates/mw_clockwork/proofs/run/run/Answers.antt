use Rattle.mw_clockwork.proofs.OneSeed.{seeds_agree}
use Rattle.mw_clockwork.proofs.run.run.Goals as goal

pub returns-in_default-clause-agree : goal.returns-in_default-clause-agree
returns-in_default-clause-agree g c = seeds_agree

pub returns-clause-agree : goal.returns-clause-agree
returns-clause-agree g c = seeds_agree
