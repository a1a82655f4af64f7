use Rattle.mw_laws.proofs.Silent.{no_text}
use Rattle.mw_laws.proofs.laws.no_text.Goals as goal

pub returns : goal.returns
returns c = no_text
