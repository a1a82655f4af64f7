use Rattle.std.proofs.Common.{ℕ, List, refl, sym, subst, inl, inr}
use Rattle.std.proofs.KnownBytes.{Keeps-refl}
use Rattle.mw_disk.specs.Crash.{LeavesOnly}
use Rattle.mw_journal.specs.Settled.{AllSettled, IsSettled}
use Rattle.mw_journal.proofs.Told.{on_ok_one}
use Rattle.mw_protocol.specs.Lives.{life_after_all}
use Rattle.mw_multidata.specs.Digest.{digest_of}
use Rattle.mw_keep.specs.Left.{IsLeft}
use Rattle.mw_keep.specs.Recovers.{Resumes, RefusesResume}
use Rattle.mw_drive.specs.Ends.{IsOfJournal, StaysSettled}
use Rattle.mw_drive.proofs.Driving.{foreign_error, runs_drive, halts_drive, drive_found, halts_accepted, cause_of, unopened_accepted}
use Rattle.mw_drive.proofs.Passing.{if_err}
use Rattle.mw_drive.proofs.Telling.{from_found, shown_from}
use Rattle.mw_drive.proofs.drive.drive_on.Goals as goal

pub returns-in-Ok-clause-done : goal.returns-in-Ok-clause-done
returns-in-Ok-clause-done g c =
    let r = subst (λ d. Resumes g.D.Disk.told g.D.Disk.may_leave d c.args.multidata c.args.disk c.in-Ok.kept) c.digest.ensures c.in-Ok.ensures.resumes in
    on_ok_one c.drive_kept.result.1 c.drive_kept.ensures.done
    (λ runs. runs_drive g.D.Disk.told g.D.Disk.may_leave c.args.file.now c.args.multidata c.args.disk c.in-Ok.kept c.requires c.names_fit.ensures r c.in-Ok.ensures.tells _ _ _ _ c.drive_kept.result.0 runs)

pub returns-in-Ok-clause-stopped : goal.returns-in-Ok-clause-stopped
returns-in-Ok-clause-stopped g c =
    let r = subst (λ d. Resumes g.D.Disk.told g.D.Disk.may_leave d c.args.multidata c.args.disk c.in-Ok.kept) c.digest.ensures c.in-Ok.ensures.resumes in
    if_err _ _ c.drive_kept.result.1 c.drive_kept.ensures.err
    (λ e halts. inr (halts_drive g.D.Disk.told g.D.Disk.may_leave c.args.file.now c.args.multidata c.args.disk c.in-Ok.kept c.requires c.names_fit.ensures r c.in-Ok.ensures.tells _ _ _ _ c.drive_kept.result.0 e halts))

pub returns-in-Ok-clause-found : goal.returns-in-Ok-clause-found
returns-in-Ok-clause-found g c some =
    let D = g.D.Disk in
    let seed = c.args.multidata in
    let r = subst (λ d. Resumes D.told D.may_leave d seed c.args.disk c.in-Ok.kept) c.digest.ensures c.in-Ok.ensures.resumes in
    drive_found D.told D.may_leave c.args.file.now seed c.args.disk c.in-Ok.kept c.requires c.names_fit.ensures r c.in-Ok.ensures.tells some _ _ _ _ c.drive_kept.result.0
    (StaysSettled (D.may_leave c.args.disk) (D.may_leave c.drive_kept.result.0) (digest_of c.args.file.now)) c.drive_kept.result.1 c.drive_kept.ensures.done c.drive_kept.ensures.err

pub returns-in-Ok-clause-kept : goal.returns-in-Ok-clause-kept
returns-in-Ok-clause-kept g c steps some left =
    let D = g.D.Disk in
    let seed = c.args.multidata in
    let file = c.args.file.now in
    let after = c.drive_kept.result.0 in
    let r = subst (λ d. Resumes D.told D.may_leave d seed c.args.disk c.in-Ok.kept) c.digest.ensures c.in-Ok.ensures.resumes in
    let found = drive_found D.told D.may_leave file seed c.args.disk c.in-Ok.kept c.requires c.names_fit.ensures r c.in-Ok.ensures.tells some _ _ _ _ after
    (StaysSettled (D.may_leave c.args.disk) (D.may_leave after) (digest_of file)) c.drive_kept.result.1 c.drive_kept.ensures.done c.drive_kept.ensures.err in
    shown_from c.shown_is_checked.ensures c.tails_of_the_last_view.ensures seed steps (D.may_leave after) (digest_of file) _ _
    (from_found (D.told c.args.disk) (D.may_leave c.args.disk) (D.may_leave after) (digest_of file) seed _ _ found some (life_after_all seed steps) (c.lives_keep.ensures.seed seed steps) left)

pub returns-in-Ok-clause-accepted : goal.returns-in-Ok-clause-accepted
returns-in-Ok-clause-accepted g c =
    let r = subst (λ d. Resumes g.D.Disk.told g.D.Disk.may_leave d c.args.multidata c.args.disk c.in-Ok.kept) c.digest.ensures c.in-Ok.ensures.resumes in
    if_err _ _ c.drive_kept.result.1 c.drive_kept.ensures.err
    (λ e halts steps some left of.
    halts_accepted g.D.Disk.told g.D.Disk.may_leave c.args.file.now c.args.multidata c.args.disk c.in-Ok.kept c.requires c.names_fit.ensures r c.in-Ok.ensures.tells some _ _ _ _ c.drive_kept.result.0 e halts of)

pub returns-in-Err-clause-stopped : goal.returns-in-Err-clause-stopped
returns-in-Err-clause-stopped g c = inl record {
  as_settled = λ text body settled f image.
      let leaves = subst (λ (d : List ℕ). LeavesOnly g.D.Disk.moment g.D.Disk.left_since c.args.disk c.in-Err.disk (λ x. IsSettled x d text body)) c.digest.ensures
      (c.in-Err.ensures.any_moment text body (subst (λ (d : List ℕ). AllSettled (g.D.Disk.may_leave c.args.disk) d text body) (sym c.digest.ensures) settled)) in
      leaves.each f (g.met.D.Disk.counts_now c.in-Err.disk (g.D.Disk.moment c.args.disk) f leaves.later image);
  read = λ foreign.
      let reads = c.in-Err.ensures.read (foreign_error c.in-Err.error c.drive_error.result c.drive_error.ensures foreign) in
      (reads.same, reads.stays);
  untouched = refl;
  quiet = Keeps-refl (g.O.Sink.held c.args.out.now);
  cause = cause_of (g.D.Disk.told c.args.disk) (digest_of c.args.file.now) c.args.multidata (g.D.Disk.faults c.args.disk) (g.D.Disk.faults c.in-Err.disk) c.in-Err.error c.drive_error.result c.drive_error.ensures
      (subst (λ (d : List ℕ). RefusesResume (g.D.Disk.told c.args.disk) d c.args.multidata (g.D.Disk.faults c.args.disk) (g.D.Disk.faults c.in-Err.disk) c.in-Err.error) c.digest.ensures c.in-Err.ensures.refused);
}

pub returns-in-Err-clause-found : goal.returns-in-Err-clause-found
returns-in-Err-clause-found g c some = inl (
  (λ text body settled f image.
      let leaves = subst (λ (d : List ℕ). LeavesOnly g.D.Disk.moment g.D.Disk.left_since c.args.disk c.in-Err.disk (λ x. IsSettled x d text body)) c.digest.ensures
      (c.in-Err.ensures.any_moment text body (subst (λ (d : List ℕ). AllSettled (g.D.Disk.may_leave c.args.disk) d text body) (sym c.digest.ensures) settled)) in
      leaves.each f (g.met.D.Disk.counts_now c.in-Err.disk (g.D.Disk.moment c.args.disk) f leaves.later image)),
  Keeps-refl (g.O.Sink.held c.args.out.now),
)

pub returns-in-Err-clause-kept : goal.returns-in-Err-clause-kept
returns-in-Err-clause-kept g c steps some left =
    let D = g.D.Disk in
    let seed = c.args.multidata in
    let digest = digest_of c.args.file.now in
    let held = g.O.Sink.held c.args.out.now in
    let stays : StaysSettled (D.may_leave c.args.disk) (D.may_leave c.in-Err.disk) digest = λ text body settled f image.
    let leaves = subst (λ (d : List ℕ). LeavesOnly D.moment D.left_since c.args.disk c.in-Err.disk (λ x. IsSettled x d text body)) c.digest.ensures
    (c.in-Err.ensures.any_moment text body (subst (λ (d : List ℕ). AllSettled (D.may_leave c.args.disk) d text body) (sym c.digest.ensures) settled)) in
    leaves.each f (g.met.D.Disk.counts_now c.in-Err.disk (D.moment c.args.disk) f leaves.later image) in
    shown_from c.shown_is_checked.ensures c.tails_of_the_last_view.ensures seed steps (D.may_leave c.in-Err.disk) digest held held
    (from_found (D.told c.args.disk) (D.may_leave c.args.disk) (D.may_leave c.in-Err.disk) digest seed held held (inl (stays, Keeps-refl held)) some (life_after_all seed steps) (c.lives_keep.ensures.seed seed steps) left)

pub returns-in-Err-clause-accepted : goal.returns-in-Err-clause-accepted
returns-in-Err-clause-accepted g c steps some left of =
    unopened_accepted c.in-Err.error
    (c.in-Err.ensures.accepted steps
    (some, c.lives_keep.ensures.seed c.args.multidata steps, subst (λ (d : List ℕ). IsLeft (g.D.Disk.may_leave c.args.disk) d (life_after_all c.args.multidata steps)) (sym c.digest.ensures) left))
    (subst IsOfJournal c.drive_error.ensures of)
