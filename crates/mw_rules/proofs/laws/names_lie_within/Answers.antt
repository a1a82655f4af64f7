use Rattle.mw_rules.proofs.Naming.{names_lie_within}
use Rattle.mw_rules.proofs.laws.names_lie_within.Goals as goal

pub returns : goal.returns
returns c = names_lie_within
