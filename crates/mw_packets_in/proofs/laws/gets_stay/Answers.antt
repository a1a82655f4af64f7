use Rattle.mw_packets_in.proofs.AsRead.{gets_stay}
use Rattle.mw_packets_in.proofs.laws.gets_stay.Goals as goal

pub returns : goal.returns
returns c = gets_stay
