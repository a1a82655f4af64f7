use Rattle.std.proofs.Common.{ℕ, List, sym, subst}
use Rattle.mw_disk.specs.Crash.{LeavesOnly}
use Rattle.mw_journal.specs.Journal.{disk_of, gate_of}
use Rattle.mw_journal.specs.Settled.{IsSettled}
use Rattle.mw_checkpoint.proofs.appending.append.Goals as goal

pub returns-in-Ok-clause-any_moment : goal.returns-in-Ok-clause-any_moment
returns-in-Ok-clause-any_moment g c digest text stands =
    subst (λ d. LeavesOnly g.D.Disk.moment g.D.Disk.left_since (disk_of c.args.journal) d (λ (f : List ℕ). IsSettled f digest text c.args.body.now))
    (sym c.into_disk.ensures) (c.in-Ok.ensures.any_moment digest text stands)

pub returns-in-Ok-clause-ok : goal.returns-in-Ok-clause-ok
returns-in-Ok-clause-ok g c digest text stands =
    let held = c.in-Ok.ensures.ok digest text stands in
    (gate_of c.append_batch.new.self, λ f left. held.1 f (subst (λ d. g.D.Disk.may_leave d f) c.into_disk.ensures left))

pub returns-in-Err-clause-any_moment : goal.returns-in-Err-clause-any_moment
returns-in-Err-clause-any_moment g c digest text stands =
    subst (λ d. LeavesOnly g.D.Disk.moment g.D.Disk.left_since (disk_of c.args.journal) d (λ (f : List ℕ). IsSettled f digest text c.args.body.now))
    (sym c.into_disk-in-Err.ensures) (c.in-Err.ensures.any_moment digest text stands)
