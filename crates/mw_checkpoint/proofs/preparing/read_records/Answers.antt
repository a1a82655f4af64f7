use Rattle.std.proofs.Common.{◌≡◌, ◌∙◌, ◌⊎◌, ◌++◌, List, ℕ, sym, subst}
use Rattle.mw_disk.specs.Crash.{LeavesOnly}
use Rattle.mw_journal.specs.Settled.{IsSettled}
use Rattle.mw_checkpoint.specs.Preparing.{RefusesReading}
use Rattle.mw_checkpoint.proofs.HeldTexts.{refuses_reading}
use Rattle.mw_checkpoint.proofs.preparing.read_records.Goals as goal

pub returns-in-Ok-read-clause-one : goal.returns-in-Ok-read-clause-one
returns-in-Ok-read-clause-one g c f text body told settled =
    subst (λ (l : List ℕ). (l ≡ text) ⊎ (l ≡ text ++ body)) (sym c.as_slice.ensures ∙ c.in-Ok-read.ensures.whole) (c.in-Ok.ensures.one f text body told settled)

pub returns-in-Ok-read-clause-any_moment : goal.returns-in-Ok-read-clause-any_moment
returns-in-Ok-read-clause-any_moment g c text body settled =
    subst (λ d. LeavesOnly g.D.Disk.moment g.D.Disk.left_since c.args.disk d (λ (f : List ℕ). IsSettled f c.args.digest.now text body))
    (sym c.into_disk-disk.ensures) (c.in-Ok.ensures.any_moment text body settled)

pub returns-in-Err-BadRecord-clause-any_moment : goal.returns-in-Err-BadRecord-clause-any_moment
returns-in-Err-BadRecord-clause-any_moment g c text body settled =
    subst (λ d. LeavesOnly g.D.Disk.moment g.D.Disk.left_since c.args.disk d (λ (f : List ℕ). IsSettled f c.args.digest.now text body))
    (sym c.into_disk-disk.ensures) (c.in-Ok.ensures.any_moment text body settled)

pub returns-in-Ok-clause-any_moment : goal.returns-in-Ok-clause-any_moment
returns-in-Ok-clause-any_moment g c text body settled =
    subst (λ d. LeavesOnly g.D.Disk.moment g.D.Disk.left_since c.args.disk d (λ (f : List ℕ). IsSettled f c.args.digest.now text body))
    (sym c.into_disk-disk.ensures) (c.in-Ok.ensures.any_moment text body settled)

pub returns-clause-refused : goal.returns-clause-refused
returns-clause-refused g c =
    let told = g.D.Disk.told c.args.disk in
    let before = g.D.Disk.faults c.args.disk in
    let after = g.D.Disk.faults c.in-Err.disk in
    subst (RefusesReading c.args.place told c.args.digest.now before after) (sym c.pair_error.ensures)
    (refuses_reading c.args.place told c.args.digest.now before after c.in-Err.error c.in-Err.ensures.refused)
