use Rattle.mw_journal.proofs.Told.{if_err, refuses_later}
use Rattle.mw_journal.proofs.scan.read_journal.Goals as goal

pub returns-clause-refused : goal.returns-clause-refused
returns-clause-refused g c = if_err _ _ c.read_batches.result c.read_batches.ensures.refused
    (λ e refuses. refuses_later (g.D.Disk.told c.args.disk.now) (g.D.Disk.told c.read_header.new.disk) c.args.digest.now
    (g.D.Disk.faults c.args.disk.now) (g.D.Disk.faults c.read_header.new.disk) (g.D.Disk.faults c.read_batches.new.disk) e
    c.read_header.ensures.reads.later c.read_header.ensures.reads.same refuses)
