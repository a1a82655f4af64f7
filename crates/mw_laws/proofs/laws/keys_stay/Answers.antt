use Rattle.mw_laws.proofs.Stored.{keys_stay}
use Rattle.mw_laws.proofs.laws.keys_stay.Goals as goal

pub returns : goal.returns
returns c = keys_stay
