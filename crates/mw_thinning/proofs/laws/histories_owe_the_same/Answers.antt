use Rattle.mw_thinning.proofs.Histories.{histories_owe_the_same}
use Rattle.mw_thinning.proofs.laws.histories_owe_the_same.Goals as goal

pub returns : goal.returns
returns c = histories_owe_the_same
