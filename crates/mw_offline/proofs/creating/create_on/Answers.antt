use Rattle.std.proofs.Common.{subst}
use Rattle.mw_journal.specs.Journal.{disk_of, gate_of}
use Rattle.mw_offline.proofs.FirstGates.{all_first}
use Rattle.mw_offline.proofs.creating.create_on.Goals as goal

pub returns-in-Ok-clause-ok : goal.returns-in-Ok-clause-ok
returns-in-Ok-clause-ok g c = λ image left.
    let journal = c.in-Ok.journal in
    all_first (g.D.Disk.may_leave (disk_of journal)) c.args.digest.now (gate_of journal) c.in-Ok.ensures.ok.1 image
    (subst (λ disk. g.D.Disk.may_leave disk image) c.into_disk.ensures left)
