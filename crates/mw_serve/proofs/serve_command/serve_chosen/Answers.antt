use Rattle.mw_causes.specs.PairCauses.{pair_drive_line, pair_drive_status}
use Rattle.mw_offline.proofs.PairFiles.{told_as}
use Rattle.mw_serve.proofs.Hosts.{listens_more}
use Rattle.mw_serve.proofs.Pairs.{pair_zero_is_ok}
use Rattle.mw_serve.proofs.serve_command.serve_chosen.Goals as goal

pub returns-clause-ends : goal.returns-clause-ends
returns-clause-ends g c =
    let run = c.serve_pair-outcome.ensures in
    let ended = c.end.ensures in
    record {
      ends = told_as pair_drive_status pair_drive_line c.serve_pair-outcome.result.0 c.end.result _ _ _ ended.done ended.kept ended.ended run.done run.stopped;
      leaves = run.leaves;
      stays = run.stays;
      kept = run.kept;
    }

pub returns-clause-listened : goal.returns-clause-listened
returns-clause-listened g c = listens_more _ _ _ _ _ _ _ (λ found. found) (λ zero. pair_zero_is_ok c.serve_pair-outcome.result.0 c.end.result _ c.end.ensures.ended zero) c.serve_pair-outcome.ensures.listened
