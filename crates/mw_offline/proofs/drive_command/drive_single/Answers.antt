use Rattle.mw_offline.proofs.Driving.{told_so}
use Rattle.mw_offline.proofs.drive_command.drive_single.Goals as goal

pub returns-clause-ends : goal.returns-clause-ends
returns-clause-ends g c =
    let run = c.drive-outcome.ensures in
    let ended = c.end.ensures in
    record {
      ends = told_so c.drive-outcome.result c.end.result _ _ _ ended.done ended.kept ended.ended run.done run.stopped;
      leaves = run.leaves;
      kept = run.kept;
    }
