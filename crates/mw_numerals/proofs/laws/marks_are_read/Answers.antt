use Rattle.mw_numerals.proofs.Reading.{read_marked}
use Rattle.mw_numerals.proofs.laws.marks_are_read.Goals as goal

pub returns : goal.returns
returns c = read_marked
