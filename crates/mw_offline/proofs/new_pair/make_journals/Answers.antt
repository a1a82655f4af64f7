use Rattle.std.proofs.Common.{subst, sym}
use Rattle.mw_pair.specs.Making.{RefusesMaking}
use Rattle.mw_offline.specs.PairRooms.{HasMakingCause}
use Rattle.mw_offline.proofs.PairFiles.{making_cause}
use Rattle.mw_offline.proofs.new_pair.make_journals.Goals as goal

pub returns-clause-refused : goal.returns-clause-refused
returns-clause-refused g c =
    let holds = g.F.Folder.holds c.args.folder.now in
    let choice = c.args.choice.now in
    subst (HasMakingCause holds choice) (sym c.making_stop.ensures)
    (making_cause holds choice c.in-Err.error (subst (λ n. RefusesMaking holds n c.in-Err.error) c.in_ok-names.ensures c.in-Err.ensures.refused))
