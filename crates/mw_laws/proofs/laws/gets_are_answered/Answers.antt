use Rattle.mw_laws.proofs.Getting.{gets_are_answered}
use Rattle.mw_laws.proofs.laws.gets_are_answered.Goals as goal

pub returns : goal.returns
returns c = gets_are_answered
