use Rattle.mw_pair.proofs.Lifted.{chose, chose_none}
use Rattle.mw_pair.proofs.choosing.choose.Goals as goal

pub returns-in-Ok-clause-chooses : goal.returns-in-Ok-clause-chooses
returns-in-Ok-clause-chooses g c =
    let e = c.in-Ok.ensures in
    let s = c.split-choice.ensures in
    chose g.D.Disk.told g.D.Disk.may_leave g.D.Disk.moment g.D.Disk.left_since g.met.D.Disk.counts_now c.args.digest.now c.args.files c.in-Ok.files e.journals.0 e.journals.1 e.any_moment e.tells c.in-Ok.named
    c.split-choice.result.0 c.split-choice.result.1 c.split-choice.result.2 s.choice s.chosen s.other e.reads

pub returns-in-Err-clause-none : goal.returns-in-Err-clause-none
returns-in-Err-clause-none g c =
    let e = c.in-Err.ensures in
    chose_none g.D.Disk.told g.D.Disk.may_leave g.D.Disk.moment g.D.Disk.left_since g.met.D.Disk.counts_now c.args.digest.now c.args.files c.in-Err.files e.journals.0 e.journals.1 e.any_moment e.tells
    g.D.Disk.faults c.in-Err.error e.refused
