use Rattle.mw_thinning.proofs.Across.{clients_across}
use Rattle.mw_thinning.proofs.laws.clients_apply_across.Goals as goal

pub returns : goal.returns
returns c = clients_across c.clients_apply.ensures
