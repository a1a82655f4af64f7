use Rattle.mw_laws.proofs.Setting.{sets_are_told}
use Rattle.mw_laws.proofs.laws.sets_are_told.Goals as goal

pub returns : goal.returns
returns c = sets_are_told
