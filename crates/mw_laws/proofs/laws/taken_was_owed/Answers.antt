use Rattle.mw_laws.proofs.Owing.{taken_was_owed}
use Rattle.mw_laws.proofs.laws.taken_was_owed.Goals as goal

pub returns : goal.returns
returns c = taken_was_owed
