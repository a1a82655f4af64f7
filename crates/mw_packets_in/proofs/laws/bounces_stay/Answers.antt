use Rattle.mw_packets_in.proofs.AsRead.{bounces_stay}
use Rattle.mw_packets_in.proofs.laws.bounces_stay.Goals as goal

pub returns : goal.returns
returns c = bounces_stay
