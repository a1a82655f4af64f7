use Rattle.std.proofs.Common.{◌≡◌, ◌+◌, ◌++◌, ℕ, List, length, subst, arith}
use Rattle.mw_disk.specs.Crash.{LeavesOnly}
use Rattle.mw_journal.specs.Image.{IsShut}
use Rattle.mw_journal.specs.Settled.{IsSettled}
use Rattle.mw_journal.specs.Journal.{disk_of}
use Rattle.mw_journal.proofs.journal.Journal.append_batch.Goals as goal

pub returns-in-Ok-commit-clause-any_moment : goal.returns-in-Ok-commit-clause-any_moment
returns-in-Ok-commit-clause-any_moment g c digest text stands =
    subst (λ (b : List ℕ). LeavesOnly g.D.Disk.moment g.D.Disk.left_since (disk_of c.args.self.now) c.commit.new.disk (λ f. IsSettled f digest text b))
    c.as_slice-body.ensures (c.commit.ensures.any_moment digest text stands.1)

pub returns-in-Err-Failed-clause-any_moment : goal.returns-in-Err-Failed-clause-any_moment
returns-in-Err-Failed-clause-any_moment g c digest text stands =
    subst (λ (b : List ℕ). LeavesOnly g.D.Disk.moment g.D.Disk.left_since (disk_of c.args.self.now) c.commit.new.disk (λ f. IsSettled f digest text b))
    c.as_slice-body.ensures (c.commit.ensures.any_moment digest text stands.1)

pub returns-clause-any_moment : goal.returns-clause-any_moment
returns-clause-any_moment g c digest text stands =
    subst (λ (b : List ℕ). LeavesOnly g.D.Disk.moment g.D.Disk.left_since (disk_of c.args.self.now) c.commit.new.disk (λ f. IsSettled f digest text b))
    c.as_slice-body.ensures (c.commit.ensures.any_moment digest text stands.1)

pub returns-in-Ok-commit-clause-ok : goal.returns-in-Ok-commit-clause-ok
returns-in-Ok-commit-clause-ok g c digest text stands = (
  stands.0,
  λ f left.
      let shut = c.in-Ok-commit.ensures.ok digest text stands.1 f left in
      let place : c.args.self.now.gate + 5 + length c.as_slice-body.result.now ≡ c.args.self.now.gate + (5 + length c.as_slice-body.result.now) =
      omega arith in
      subst (λ (n : ℕ). IsShut f digest (text ++ c.args.body.now) n 0) place
      (subst (λ (b : List ℕ). IsShut f digest (text ++ b) (c.args.self.now.gate + 5 + length c.as_slice-body.result.now) 0) c.as_slice-body.ensures shut),
)
