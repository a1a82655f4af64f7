use Rattle.std.proofs.Common.{ℕ, List, sym, subst}
use Rattle.mw_disk.specs.Crash.{LeavesOnly}
use Rattle.mw_journal.proofs.Told.{if_err}
use Rattle.mw_multidata.specs.Digest.{digest_of}
use Rattle.mw_protocol.specs.Lives.{life_after_all}
use Rattle.mw_keep.specs.Left.{GoesOn, WasLeft}
use Rattle.mw_journal.specs.Settled.{AllSettled, IsSettled}
use Rattle.mw_protocol.specs.Spelled.{records_bytes}
use Rattle.mw_keep.specs.Entered.{AreSound}
use Rattle.mw_keep.specs.Recovers.{RefusesResume, disk_left}
use Rattle.mw_keep.proofs.Going.{if_ok}
use Rattle.mw_keep.proofs.OneSeed.{one_seed, refuses_recover}
use Rattle.mw_keep.proofs.recovery.recover.Goals as goal

pub returns-in-Ok-clause-refused : goal.returns-in-Ok-clause-refused
returns-in-Ok-clause-refused g c = if_err _ _ c.resume.result c.resume.ensures.refused
    (λ e refuses. refuses_recover (g.D.Disk.told c.args.disk) c.args.multidata.now _ c.in-Ok.seed (g.D.Disk.faults c.args.disk) (g.D.Disk.faults e.0)
    c.in-Ok.ensures e.1
    (subst (λ (d : List ℕ). RefusesResume (g.D.Disk.told c.args.disk) d c.in-Ok.seed (g.D.Disk.faults c.args.disk) (g.D.Disk.faults e.0) e.1) c.digest.ensures refuses))

pub returns-in-Ok-clause-settled : goal.returns-in-Ok-clause-settled
returns-in-Ok-clause-settled g c = if_err _ _ c.resume.result c.resume.ensures.settled
    (λ e outside seed accepted f kept batch told sound more settled.
    let same = one_seed c.args.multidata.now seed c.in-Ok.seed accepted c.in-Ok.ensures in
    outside f kept batch told (subst (λ s. AreSound s kept) same sound) (subst (λ s. AreSound s batch) same more)
    (subst (λ (d : List ℕ). AllSettled (g.D.Disk.may_leave c.args.disk) d (records_bytes kept) (records_bytes batch)) (sym c.digest.ensures) settled))

pub returns-in-Ok-clause-any_moment : goal.returns-in-Ok-clause-any_moment
returns-in-Ok-clause-any_moment g c text body settled =
    subst (λ (d : List ℕ). LeavesOnly g.D.Disk.moment g.D.Disk.left_since c.args.disk (disk_left c.resume.result) (λ f. IsSettled f d text body)) c.digest.ensures
    (c.resume.ensures.any_moment text body
    (subst (λ (d : List ℕ). AllSettled (g.D.Disk.may_leave c.args.disk) d text body) (sym c.digest.ensures) settled))

pub returns-in-Ok-clause-goes_on : goal.returns-in-Ok-clause-goes_on
returns-in-Ok-clause-goes_on g c = if_ok _ _ c.resume.result c.resume.ensures.goes_on
    (λ k on seed life accepted was.
    let same = one_seed c.args.multidata.now seed c.in-Ok.seed accepted c.in-Ok.ensures in
    subst (λ (d : List ℕ). GoesOn g.D.Disk.may_leave d life k) c.digest.ensures
    (on life
    (subst (λ (d : List ℕ). WasLeft (g.D.Disk.told c.args.disk) (g.D.Disk.may_leave c.args.disk) d c.in-Ok.seed life) (sym c.digest.ensures)
    (subst (λ s. WasLeft (g.D.Disk.told c.args.disk) (g.D.Disk.may_leave c.args.disk) (digest_of c.args.multidata.now) s life) same was))))

pub returns-in-Ok-clause-accepted : goal.returns-in-Ok-clause-accepted
returns-in-Ok-clause-accepted g c = if_err _ _ c.resume.result c.resume.ensures.accepted
    (λ e outside seed steps accepted was.
    let same = one_seed c.args.multidata.now seed c.in-Ok.seed accepted c.in-Ok.ensures in
    outside steps
    (subst (λ (d : List ℕ). WasLeft (g.D.Disk.told c.args.disk) (g.D.Disk.may_leave c.args.disk) d c.in-Ok.seed (life_after_all c.in-Ok.seed steps)) (sym c.digest.ensures)
    (subst (λ s. WasLeft (g.D.Disk.told c.args.disk) (g.D.Disk.may_leave c.args.disk) (digest_of c.args.multidata.now) s (life_after_all s steps)) same was)))
