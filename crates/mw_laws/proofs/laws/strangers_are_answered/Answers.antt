use Rattle.mw_laws.proofs.Answered.{strangers_are_answered}
use Rattle.mw_laws.proofs.laws.strangers_are_answered.Goals as goal

pub returns : goal.returns
returns c = strangers_are_answered
