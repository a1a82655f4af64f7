use Rattle.std.proofs.Common.{sym}
use Rattle.mw_numerals.proofs.Numerals.{not_whole}
use Rattle.mw_numerals.proofs.numeral.whole_of.Goals as goal

pub returns-in-Err : goal.returns-in-Err
returns-in-Err c = sym (not_whole c.args.text.now c.in-Err.ensures.value.0)
