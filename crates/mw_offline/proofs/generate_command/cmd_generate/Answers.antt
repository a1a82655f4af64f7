use Rattle.mw_causes.proofs.Endings.{ends}
use Rattle.mw_offline.proofs.OneRun.{generate_is_one}
use Rattle.mw_offline.proofs.generate_command.cmd_generate.Goals as goal

pub returns-clause-ends : goal.returns-clause-ends
returns-clause-ends g c =
    let run = c.write_and_print-outcome.ensures in
    let ended = c.end.ensures in
    ends _ _ _ _ _ _ _ _ _ c.write_and_print-outcome.result ended.done ended.kept ended.ended run.done run.left

pub returns-clause-one : goal.returns-clause-one
returns-clause-one g c = generate_is_one
