use Rattle.mw_packets_in.proofs.AsRead.{sets_stay}
use Rattle.mw_packets_in.proofs.laws.sets_stay.Goals as goal

pub returns : goal.returns
returns c = sets_stay
