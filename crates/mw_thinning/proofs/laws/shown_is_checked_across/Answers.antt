use Rattle.mw_thinning.proofs.Across.{shown_across}
use Rattle.mw_thinning.proofs.laws.shown_is_checked_across.Goals as goal

pub returns : goal.returns
returns c = shown_across c.lives_keep.ensures c.shown_is_checked.ensures
