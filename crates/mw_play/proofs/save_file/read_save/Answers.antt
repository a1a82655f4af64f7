use Rattle.std.proofs.Common.{ℕ, List, subst, sym}
use Rattle.mw_journal.specs.Image.{StandsAt}
use Rattle.mw_journal.specs.Journal.{gate_of}
use Rattle.mw_play.proofs.Refusing.{text_refused}
use Rattle.mw_play.proofs.save_file.read_save.Goals as goal

pub returns-in-Ok-clause-refused : goal.returns-in-Ok-clause-refused
returns-in-Ok-clause-refused g c =
    text_refused (g.D.Disk.told c.args.disk) c.args.digest.now c.as_slice.result.now (gate_of c.in-Ok.journal) (g.D.Disk.faults c.args.disk) (g.D.Disk.faults c.into_disk.result) c.in-Err-list_of.error
    (λ f is. subst (λ (t : List ℕ). StandsAt f c.args.digest.now t (gate_of c.in-Ok.journal)) (sym c.as_slice.ensures) (c.in-Ok.ensures.stands f is)) c.in-Err-list_of.ensures.refused

pub returns-clause-refused : goal.returns-clause-refused
returns-clause-refused g c =
    c.unopened.ensures (g.D.Disk.told c.args.disk) c.args.digest.now (g.D.Disk.faults c.args.disk) (g.D.Disk.faults c.in-Err.disk) c.requires c.in-Err.ensures.refused
