use Rattle.mw_laws.proofs.Setting.{sets_are_got}
use Rattle.mw_laws.proofs.laws.set_is_got.Goals as goal

pub returns : goal.returns
returns c = sets_are_got
