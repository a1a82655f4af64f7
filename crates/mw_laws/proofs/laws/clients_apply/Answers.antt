use Rattle.mw_laws.proofs.Steady.{clients_apply}
use Rattle.mw_laws.proofs.laws.clients_apply.Goals as goal

pub returns : goal.returns
returns c = clients_apply
