use Rattle.std.proofs.lemmas.Str.{IsUtf8-from_ascii}
use Rattle.mw_numerals.proofs.Numerals.{ascii_run}
use Rattle.mw_numerals.proofs.numeral.is_kept_run.Goals as goal

pub returns-in-Err : goal.returns-in-Err
returns-in-Err c = absurd (c.in-Err.ensures.cases.0 (IsUtf8-from_ascii c.args.run.now (ascii_run c.args.run.now c.requires)))
