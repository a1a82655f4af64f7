use Rattle.std.proofs.Common.{◌≡◌, ◌∷◌, [], Some, refl, sym, subst}
use Rattle.mw_protocol.specs.Spelled.{records_bytes}
use Rattle.mw_journal.specs.Settled.{AllSettled}
use Rattle.mw_multidata.specs.Digest.{digest_of}
use Rattle.mw_keep.specs.Recovers.{Recovers}
use Rattle.mw_drive.specs.Calls.{IsOutside}
use Rattle.mw_keep.specs.Left.{IsLeft}
use Rattle.mw_keep.proofs.Leaving.{left_after, left_of}
use Rattle.mw_script.specs.Commands.{crashes}
use Rattle.mw_drive.specs.Runs.{IsOfRun}
use Rattle.mw_drive.proofs.Crashing.{crash_ran, recovers_life, refused_outside}
use Rattle.mw_drive.proofs.crash.crash.Goals as goal

pub returns-in-Ok-clause-ok : goal.returns-in-Ok-clause-ok
returns-in-Ok-clause-ok g c seed life accepted keeps going some =
    recovers_life g.D.Disk.told g.D.Disk.may_leave g.met.D.Disk.told_may_stay c.args.file.now seed life c.args.kept accepted keeps going some c.in-Ok.kept
    (subst (λ d. Recovers g.D.Disk.told g.D.Disk.may_leave c.args.file.now (digest_of c.args.file.now) d c.in-Ok.kept) c.into_disk.ensures c.in-Ok.ensures.recovers)

pub returns-in-Err-clause-left : goal.returns-in-Err-clause-left
returns-in-Err-clause-left g c seed life keeps going =
    left_after g.D.Disk.may_leave g.D.Disk.moment g.D.Disk.left_since g.met.D.Disk.counts_now (digest_of c.args.file.now) life c.into_disk.result c.in-Err.disk
    (subst (λ d. IsLeft (g.D.Disk.may_leave d) (digest_of c.args.file.now) life) (sym c.into_disk.ensures) (left_of g.D.Disk.may_leave (digest_of c.args.file.now) life c.args.kept keeps))
    c.in-Err.ensures.any_moment

pub returns-in-Err-clause-outside : goal.returns-in-Err-clause-outside
returns-in-Err-clause-outside g c seed life accepted keeps going some sound =
    subst IsOutside (sym c.drive_error.ensures)
    (refused_outside g.D.Disk.told g.D.Disk.may_leave g.met.D.Disk.told_may_stay c.args.file.now seed life c.args.kept accepted keeps going some c.in-Err.error sound
    (λ s is f was batch told a b settled. c.in-Err.ensures.settled s is f was batch (subst (λ d. g.D.Disk.told d ≡ Some f) (sym c.into_disk.ensures) told) a b
    (subst (λ d. AllSettled (g.D.Disk.may_leave d) (digest_of c.args.file.now) (records_bytes was) (records_bytes batch)) (sym c.into_disk.ensures) settled)))

pub returns-in-Err-clause-ran : goal.returns-in-Err-clause-ran
returns-in-Err-clause-ran g c = subst (IsOfRun (crashes ∷ [])) (sym c.drive_error.ensures) (crash_ran (crashes ∷ []) c.in-Err.error refl)
