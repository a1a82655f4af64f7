use Rattle.mw_laws.proofs.Watched.{watchers_stay}
use Rattle.mw_laws.proofs.laws.watchers_stay.Goals as goal

pub returns : goal.returns
returns c = watchers_stay
