use Rattle.mw_client.proofs.Fronts.{lists_stay_fronts}
use Rattle.mw_client.proofs.laws.lists_stay_fronts.Goals as goal

pub returns : goal.returns
returns c = lists_stay_fronts c.clients_apply.ensures
