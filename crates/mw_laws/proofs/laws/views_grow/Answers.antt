use Rattle.mw_laws.proofs.Journals.{views_grow}
use Rattle.mw_laws.proofs.laws.views_grow.Goals as goal

pub returns : goal.returns
returns c = views_grow
