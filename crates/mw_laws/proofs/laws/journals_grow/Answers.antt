use Rattle.mw_laws.proofs.Journals.{journals_grow}
use Rattle.mw_laws.proofs.laws.journals_grow.Goals as goal

pub returns : goal.returns
returns c = journals_grow
