use Rattle.mw_laws.proofs.Shows.{shown_is_checked}
use Rattle.mw_laws.proofs.laws.shown_is_checked.Goals as goal

pub returns : goal.returns
returns c = shown_is_checked
