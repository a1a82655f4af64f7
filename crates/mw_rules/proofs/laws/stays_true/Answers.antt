use Rattle.mw_rules.proofs.Staying.{stays_true}
use Rattle.mw_rules.proofs.laws.stays_true.Goals as goal

pub returns : goal.returns
returns c = stays_true
