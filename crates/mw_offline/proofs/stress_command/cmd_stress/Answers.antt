use Rattle.mw_causes.proofs.Endings.{ends}
use Rattle.mw_offline.proofs.stress_command.cmd_stress.Goals as goal

pub returns-clause-ends : goal.returns-clause-ends
returns-clause-ends g c =
    let run = c.print_stress-outcome.ensures in
    let ended = c.end.ensures in
    ends _ _ _ _ _ _ _ _ _ c.print_stress-outcome.result ended.done ended.kept ended.ended run.done run.left
