use Rattle.mw_laws.proofs.Hinting.{hints_stand}
use Rattle.mw_laws.proofs.laws.found_stays.Goals as goal

pub returns : goal.returns
returns c = hints_stand
