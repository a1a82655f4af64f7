use Rattle.std.proofs.Common.{◌++◌, ◌⊎◌, List, [], ℕ, sym, subst, arith}
use Rattle.mw_disk.proofs.Moments.{wider}
use Rattle.mw_journal.specs.Journal.{disk_of}
use Rattle.mw_journal.specs.Settled.{IsSettled}
use Rattle.mw_model.specs.Items.{NetItem}
use Rattle.mw_play.specs.Saves.{HoldsList, KeepsList}
use Rattle.mw_play.proofs.Kept.{leads_both, leads_nothing, settled_holds}
use Rattle.mw_play.proofs.saving.save.Goals as goal

pub returns-then-len-eq0-clause-keeps : goal.returns-then-len-eq0-clause-keeps
returns-then-len-eq0-clause-keeps g c = λ digest before after keeps leads.
    subst (λ (l : List NetItem). KeepsList g.D.Disk.may_leave digest c.args.journal.now l) (sym (leads_nothing before after c.args.bodies.now (omega (arith, c.len.ensures, c.if-len-eq0.true)) leads)) keeps

pub returns-in-Ok-clause-keeps : goal.returns-in-Ok-clause-keeps
returns-in-Ok-clause-keeps g c = λ digest before after keeps leads. record {
  text = keeps.text ++ c.args.bodies.now;
  stands = c.in-Ok.ensures.ok digest keeps.text keeps.stands;
  saved = leads_both [] before after keeps.text c.args.bodies.now keeps.saved leads;
}

pub returns-in-Ok-clause-moments : goal.returns-in-Ok-clause-moments
returns-in-Ok-clause-moments g c = λ digest before after keeps leads.
    wider g.D.Disk.moment g.D.Disk.left_since (disk_of c.args.journal.now) (disk_of c.append_batch.new.self) (λ (i : List ℕ). IsSettled i digest keeps.text c.args.bodies.now) (λ (i : List ℕ). HoldsList i digest before ⊎ HoldsList i digest after)
    (c.append_batch.ensures.any_moment digest keeps.text keeps.stands) (λ i settled. settled_holds i digest keeps.text c.args.bodies.now before after settled keeps.saved leads)

pub returns-in-Err-DiskFault-clause-moments : goal.returns-in-Err-DiskFault-clause-moments
returns-in-Err-DiskFault-clause-moments g c = λ digest before after keeps leads.
    wider g.D.Disk.moment g.D.Disk.left_since (disk_of c.args.journal.now) (disk_of c.append_batch.new.self) (λ (i : List ℕ). IsSettled i digest keeps.text c.args.bodies.now) (λ (i : List ℕ). HoldsList i digest before ⊎ HoldsList i digest after)
    (c.append_batch.ensures.any_moment digest keeps.text keeps.stands) (λ i settled. settled_holds i digest keeps.text c.args.bodies.now before after settled keeps.saved leads)

pub returns-in-Err-Memory-clause-moments : goal.returns-in-Err-Memory-clause-moments
returns-in-Err-Memory-clause-moments g c = λ digest before after keeps leads.
    wider g.D.Disk.moment g.D.Disk.left_since (disk_of c.args.journal.now) (disk_of c.append_batch.new.self) (λ (i : List ℕ). IsSettled i digest keeps.text c.args.bodies.now) (λ (i : List ℕ). HoldsList i digest before ⊎ HoldsList i digest after)
    (c.append_batch.ensures.any_moment digest keeps.text keeps.stands) (λ i settled. settled_holds i digest keeps.text c.args.bodies.now before after settled keeps.saved leads)
