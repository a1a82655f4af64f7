use Rattle.mw_causes.specs.PairCauses.{thin_line, thin_status}
use Rattle.mw_offline.proofs.PairFiles.{told_as}
use Rattle.mw_offline.proofs.thin_command.cmd_thin.Goals as goal

pub returns-clause-ends : goal.returns-clause-ends
returns-clause-ends g c =
    let run = c.thin-outcome.ensures in
    let ended = c.end.ensures in
    record {
      ends = told_as thin_status thin_line c.thin-outcome.result c.end.result _ _ _ ended.done ended.kept ended.ended run.done run.stopped;
      others = run.others;
      keeps = run.keeps;
    }
