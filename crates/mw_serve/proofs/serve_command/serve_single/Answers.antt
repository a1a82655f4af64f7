use Rattle.mw_offline.proofs.Driving.{told_so}
use Rattle.mw_serve.proofs.Files.{zero_is_ok}
use Rattle.mw_serve.proofs.Hosts.{listens_more}
use Rattle.mw_serve.proofs.serve_command.serve_single.Goals as goal

pub returns-clause-ends : goal.returns-clause-ends
returns-clause-ends g c =
    let run = c.serve-outcome.ensures in
    let ended = c.end.ensures in
    record {
      ends = told_so c.serve-outcome.result.0 c.end.result _ _ _ ended.done ended.kept ended.ended run.done run.stopped;
      leaves = run.leaves;
      kept = run.kept;
    }

pub returns-clause-listened : goal.returns-clause-listened
returns-clause-listened g c = listens_more _ _ _ _ _ _ _ (λ found. found) (λ zero. zero_is_ok c.serve-outcome.result.0 c.end.result _ c.end.ensures.ended zero) c.serve-outcome.ensures.listened
