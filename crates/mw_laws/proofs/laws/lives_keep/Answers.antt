use Rattle.mw_laws.proofs.Keeping.{lives_keep}
use Rattle.mw_laws.proofs.laws.lives_keep.Goals as goal

pub returns : goal.returns
returns c = lives_keep
