use Rattle.mw_laws.proofs.Sharing.{owners_share}
use Rattle.mw_laws.proofs.laws.shared_items_are_one.Goals as goal

pub returns : goal.returns
returns c = owners_share
