use Rattle.mw_thinning.proofs.Checkpoints.{checkpoints_change_nothing}
use Rattle.mw_thinning.proofs.laws.checkpoints_change_nothing.Goals as goal

pub returns : goal.returns
returns c = checkpoints_change_nothing
