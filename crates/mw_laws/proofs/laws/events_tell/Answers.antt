use Rattle.mw_laws.proofs.Telling.{events_tell}
use Rattle.mw_laws.proofs.laws.events_tell.Goals as goal

pub returns : goal.returns
returns c = events_tell
