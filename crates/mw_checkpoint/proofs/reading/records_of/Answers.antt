use Rattle.std.proofs.Common.{◌∙◌, ap, map}
use Rattle.std.specs.Prelude.{Err}
use Rattle.mw_records.specs.Records.{record_view}
use Rattle.mw_checkpoint.proofs.Spelt.{read_refuses}
use Rattle.mw_checkpoint.proofs.reading.records_of.Goals as goal

pub returns-in-Err-clause-refused : goal.returns-in-Err-clause-refused
returns-in-Err-clause-refused c =
    read_refuses c.args.text.now c.loop-at.at (map record_view c.loop-at.records) c.in-Err.error c.loop-at.invariant c.loop-at-test.true
    (λ p is. c.decode.ensures.bad p (c.in-Err.is ∙ ap (λ e. Err e) is))
