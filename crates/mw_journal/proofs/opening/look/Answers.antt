use Rattle.mw_journal.proofs.Told.{if_err, refuses_later}
use Rattle.mw_journal.proofs.opening.look.Goals as goal

pub returns-clause-refused : goal.returns-clause-refused
returns-clause-refused g c = if_err _ _ c.read_journal.result c.read_journal.ensures.refused
    (λ e refuses. refuses_later (g.D.Disk.told c.args.disk.now) (g.D.Disk.told c.sync.new.self) c.args.digest.now
    (g.D.Disk.faults c.args.disk.now) (g.D.Disk.faults c.sync.new.self) (g.D.Disk.faults c.read_journal.new.disk) e
    c.sync.ensures.cause.later c.sync.ensures.same refuses)
