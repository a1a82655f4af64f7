use Rattle.mw_laws.proofs.Strangers.{strangers_hear}
use Rattle.mw_laws.proofs.laws.strangers_hear.Goals as goal

pub returns : goal.returns
returns c = strangers_hear
