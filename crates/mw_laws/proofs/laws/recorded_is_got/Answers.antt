use Rattle.mw_laws.proofs.Setting.{recorded_is_got}
use Rattle.mw_laws.proofs.laws.recorded_is_got.Goals as goal

pub returns : goal.returns
returns c = recorded_is_got
