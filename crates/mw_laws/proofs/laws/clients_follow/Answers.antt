use Rattle.mw_laws.proofs.Following.{clients_follow}
use Rattle.mw_laws.proofs.laws.clients_follow.Goals as goal

pub returns : goal.returns
returns c = clients_follow
