use Rattle.mw_laws.proofs.Points.{slots_never_owe}
use Rattle.mw_laws.proofs.laws.slots_never_owe.Goals as goal

pub returns : goal.returns
returns c = slots_never_owe
