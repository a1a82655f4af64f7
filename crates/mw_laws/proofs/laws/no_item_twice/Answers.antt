use Rattle.mw_laws.proofs.Once.{items_come_once}
use Rattle.mw_laws.proofs.laws.no_item_twice.Goals as goal

pub returns : goal.returns
returns c = items_come_once
