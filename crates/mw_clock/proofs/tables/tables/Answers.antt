use Rattle.mw_causes.proofs.Endings.{ends}
use Rattle.mw_clock.proofs.tables.tables.Goals as goal

pub returns-clause-ends : goal.returns-clause-ends
returns-clause-ends g c =
    let run = c.write_and_print-outcome.ensures in
    let ended = c.end.ensures in
    ends _ _ _ _ _ _ _ _ _ c.write_and_print-outcome.result ended.done ended.kept ended.ended run.done run.left
