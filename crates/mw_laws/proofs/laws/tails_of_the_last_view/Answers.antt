use Rattle.mw_laws.proofs.Tails.{tails_of_the_last_view}
use Rattle.mw_laws.proofs.laws.tails_of_the_last_view.Goals as goal

pub returns : goal.returns
returns c = tails_of_the_last_view
