use Rattle.mw_play.proofs.run.play_on_disk.Goals as goal

pub returns-in-Ok-clause-stopped : goal.returns-in-Ok-clause-stopped
returns-in-Ok-clause-stopped g c = c.play_on_journal.ensures.stopped c.args.digest.now (g.D.Disk.told c.args.disk) c.in-Ok.ensures.keeps c.in-Ok.ensures.told

pub returns-in-Ok-clause-left : goal.returns-in-Ok-clause-left
returns-in-Ok-clause-left g c = c.play_on_journal.ensures.left c.args.digest.now (g.D.Disk.told c.args.disk) c.in-Ok.ensures.keeps c.in-Ok.ensures.told
