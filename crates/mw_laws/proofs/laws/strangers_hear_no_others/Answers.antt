use Rattle.mw_laws.proofs.Answered.{strangers_hear_no_others}
use Rattle.mw_laws.proofs.laws.strangers_hear_no_others.Goals as goal

pub returns : goal.returns
returns c = strangers_hear_no_others
