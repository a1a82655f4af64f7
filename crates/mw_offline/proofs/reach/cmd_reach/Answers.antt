use Rattle.mw_causes.proofs.Endings.{ends}
use Rattle.mw_offline.proofs.reach.cmd_reach.Goals as goal

pub returns-clause-ends : goal.returns-clause-ends
returns-clause-ends g c =
    let run = c.print_reach-outcome.ensures in
    let ended = c.end.ensures in
    ends _ _ _ _ _ _ _ _ _ c.print_reach-outcome.result ended.done ended.kept ended.ended run.done run.left
