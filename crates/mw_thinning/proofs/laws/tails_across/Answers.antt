use Rattle.mw_thinning.proofs.Across.{tails_across}
use Rattle.mw_thinning.proofs.laws.tails_across.Goals as goal

pub returns : goal.returns
returns c = tails_across c.lives_keep.ensures c.tails_of_the_last_view.ensures
