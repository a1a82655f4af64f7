use Rattle.mw_laws.proofs.Slots.{slots_stay}
use Rattle.mw_laws.proofs.laws.slots_stay.Goals as goal

pub returns : goal.returns
returns c = slots_stay
