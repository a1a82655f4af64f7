use Rattle.mw_records.proofs.Taken.{one_spelling}
use Rattle.mw_records.proofs.decoding.one_spelling.Goals as goal

pub returns : goal.returns
returns c = one_spelling
