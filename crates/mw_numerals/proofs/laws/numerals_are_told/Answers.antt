use Rattle.mw_numerals.proofs.Numerals.{tells_numerals}
use Rattle.mw_numerals.proofs.laws.numerals_are_told.Goals as goal

pub returns : goal.returns
returns c = tells_numerals
