use Rattle.mw_laws.proofs.Naming.{journals_are_named}
use Rattle.mw_laws.proofs.laws.journals_are_named.Goals as goal

pub returns : goal.returns
returns c = journals_are_named
