use Rattle.mw_laws.proofs.Hinting.{hints_cost_once}
use Rattle.mw_laws.proofs.laws.paid_once.Goals as goal

pub returns : goal.returns
returns c = hints_cost_once
