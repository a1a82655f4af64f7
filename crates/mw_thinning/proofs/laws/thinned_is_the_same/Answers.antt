use Rattle.mw_thinning.proofs.Thinned.{thinned_is_the_same}
use Rattle.mw_thinning.proofs.laws.thinned_is_the_same.Goals as goal

pub returns : goal.returns
returns c = thinned_is_the_same
