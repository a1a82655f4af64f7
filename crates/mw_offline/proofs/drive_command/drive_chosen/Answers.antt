use Rattle.mw_causes.specs.PairCauses.{pair_drive_line, pair_drive_status}
use Rattle.mw_offline.proofs.PairFiles.{told_as}
use Rattle.mw_offline.proofs.drive_command.drive_chosen.Goals as goal

pub returns-clause-ends : goal.returns-clause-ends
returns-clause-ends g c =
    let run = c.drive_pair-outcome.ensures in
    let ended = c.end.ensures in
    record {
      ends = told_as pair_drive_status pair_drive_line c.drive_pair-outcome.result c.end.result _ _ _ ended.done ended.kept ended.ended run.done run.stopped;
      leaves = run.leaves;
      stays = run.stays;
      kept = run.kept;
    }
