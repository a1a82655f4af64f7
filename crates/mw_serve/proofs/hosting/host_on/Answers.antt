use Rattle.std.proofs.Common.{ℕ, List, refl, sym, subst, inl}
use Rattle.mw_disk.specs.Crash.{LeavesOnly}
use Rattle.mw_journal.specs.Settled.{AllSettled, IsSettled}
use Rattle.mw_protocol.specs.Lives.{life_after_all}
use Rattle.mw_multidata.specs.Digest.{digest_of}
use Rattle.mw_keep.specs.Keeps.{kept_disk}
use Rattle.mw_keep.specs.Left.{IsLeft}
use Rattle.mw_keep.specs.Recovers.{Resumes, RefusesResume}
use Rattle.mw_drive.specs.Ends.{IsAsRead, IsFound, IsOfJournal, Refuses, StaysSettled}
use Rattle.mw_drive.proofs.Driving.{cause_of, foreign_error, unopened_accepted}
use Rattle.mw_serve.specs.Hosted.{Finds}
use Rattle.mw_serve.proofs.Hosts.{listens_more, run_accepted, run_count, run_done, run_fault, run_found, run_full, run_short, run_tells}
use Rattle.mw_serve.proofs.hosting.host_on.Goals as goal

pub returns-in-Ok-clause-done : goal.returns-in-Ok-clause-done
returns-in-Ok-clause-done g c =
    let D = g.D.Disk in let L = g.G.Line.Link in let digest = digest_of c.args.file.now in let seed = c.args.multidata in
    let r = subst (λ d. Resumes D.told D.may_leave d seed c.args.disk c.in-Ok.room) c.digest.ensures c.in-Ok.ensures.resumes in
    run_done L.heard L.sent L.faults L.opened L.is_shut D.may_leave D.told D.faults digest seed c.args.disk c.in-Ok.room r c.args.terms.accept c.host.result.disk c.host.result.served (g.G.Gate.faults c.host.result.gate) (g.G.Gate.left c.host.result.gate) (g.G.Gate.ended c.host.result.gate) c.host.result.outcome c.host.ensures.run
    c.lives_keep.ensures

pub returns-in-Ok-clause-short : goal.returns-in-Ok-clause-short
returns-in-Ok-clause-short g c =
    let D = g.D.Disk in let L = g.G.Line.Link in let digest = digest_of c.args.file.now in let seed = c.args.multidata in
    let r = subst (λ d. Resumes D.told D.may_leave d seed c.args.disk c.in-Ok.room) c.digest.ensures c.in-Ok.ensures.resumes in
    let stays : StaysSettled (D.may_leave c.args.disk) (D.may_leave (kept_disk c.in-Ok.room)) digest = λ text body settled f image.
    let leaves = subst (λ (d : List ℕ). LeavesOnly D.moment D.left_since c.args.disk (kept_disk c.in-Ok.room) (λ x. IsSettled x d text body)) c.digest.ensures
    (c.in-Ok.ensures.any_moment text body (subst (λ (d : List ℕ). AllSettled (D.may_leave c.args.disk) d text body) (sym c.digest.ensures) settled)) in
    let met = g.met.D.Disk g.world.𝓛 g.world.𝓜 g.world.𝓡 (λ s x. x, λ x. x, λ x. x, λ x. x) in
    leaves.each f (met.counts_now (kept_disk c.in-Ok.room) (D.moment c.args.disk) f leaves.later image) in
    run_short L.heard L.sent L.faults L.opened L.is_shut D.may_leave D.told D.faults digest seed c.args.disk c.in-Ok.room r c.args.terms.accept c.host.result.disk c.host.result.served (g.G.Gate.faults c.host.result.gate) (g.G.Gate.left c.host.result.gate) (g.G.Gate.ended c.host.result.gate) c.host.result.outcome c.host.ensures.run stays
    (Refuses (D.told c.args.disk) digest seed) (IsAsRead (D.told c.args.disk) (D.told c.host.result.disk) (D.may_leave c.args.disk) (D.may_leave c.host.result.disk))

pub returns-in-Ok-clause-found : goal.returns-in-Ok-clause-found
returns-in-Ok-clause-found g c =
    let D = g.D.Disk in let L = g.G.Line.Link in let digest = digest_of c.args.file.now in let seed = c.args.multidata in
    let r = subst (λ d. Resumes D.told D.may_leave d seed c.args.disk c.in-Ok.room) c.digest.ensures c.in-Ok.ensures.resumes in
    let stays : StaysSettled (D.may_leave c.args.disk) (D.may_leave (kept_disk c.in-Ok.room)) digest = λ text body settled f image.
    let leaves = subst (λ (d : List ℕ). LeavesOnly D.moment D.left_since c.args.disk (kept_disk c.in-Ok.room) (λ x. IsSettled x d text body)) c.digest.ensures
    (c.in-Ok.ensures.any_moment text body (subst (λ (d : List ℕ). AllSettled (D.may_leave c.args.disk) d text body) (sym c.digest.ensures) settled)) in
    let met = g.met.D.Disk g.world.𝓛 g.world.𝓜 g.world.𝓡 (λ s x. x, λ x. x, λ x. x, λ x. x) in
    leaves.each f (met.counts_now (kept_disk c.in-Ok.room) (D.moment c.args.disk) f leaves.later image) in
    run_found L.heard L.sent L.faults L.opened L.is_shut D.may_leave D.told D.faults digest seed c.args.disk c.in-Ok.room r c.args.terms.accept c.host.result.disk c.host.result.served (g.G.Gate.faults c.host.result.gate) (g.G.Gate.left c.host.result.gate) (g.G.Gate.ended c.host.result.gate) c.host.result.outcome c.host.ensures.run stays
    c.lives_keep.ensures c.taken_was_owed.ensures

pub returns-in-Ok-clause-accepted : goal.returns-in-Ok-clause-accepted
returns-in-Ok-clause-accepted g c =
    let D = g.D.Disk in let L = g.G.Line.Link in let digest = digest_of c.args.file.now in let seed = c.args.multidata in
    let r = subst (λ d. Resumes D.told D.may_leave d seed c.args.disk c.in-Ok.room) c.digest.ensures c.in-Ok.ensures.resumes in
    run_accepted L.heard L.sent L.faults L.opened L.is_shut D.may_leave D.told D.faults digest seed c.args.disk c.in-Ok.room r c.args.terms.accept c.host.result.disk c.host.result.served (g.G.Gate.faults c.host.result.gate) (g.G.Gate.left c.host.result.gate) (g.G.Gate.ended c.host.result.gate) c.host.result.outcome c.host.ensures.run
    _ (λ e outside steps some was. outside)

pub returns-in-Ok-clause-numbers : goal.returns-in-Ok-clause-numbers
returns-in-Ok-clause-numbers g c =
    let r = c.in-Ok.ensures.resumes in c.host.ensures.numbers c.digest.result c.args.multidata r.journal r.place r.began

pub returns-in-Ok-clause-full : goal.returns-in-Ok-clause-full
returns-in-Ok-clause-full g c =
    let D = g.D.Disk in let L = g.G.Line.Link in let digest = digest_of c.args.file.now in let seed = c.args.multidata in
    let r = subst (λ d. Resumes D.told D.may_leave d seed c.args.disk c.in-Ok.room) c.digest.ensures c.in-Ok.ensures.resumes in
    run_full L.heard L.sent L.faults L.opened L.is_shut D.may_leave D.told D.faults digest seed c.args.disk c.in-Ok.room r c.args.terms.accept c.host.result.disk c.host.result.served (g.G.Gate.faults c.host.result.gate) (g.G.Gate.left c.host.result.gate) (g.G.Gate.ended c.host.result.gate) c.host.result.outcome c.host.ensures.run

pub returns-in-Ok-clause-fault : goal.returns-in-Ok-clause-fault
returns-in-Ok-clause-fault g c is =
    let D = g.D.Disk in let L = g.G.Line.Link in let digest = digest_of c.args.file.now in let seed = c.args.multidata in
    let r = subst (λ d. Resumes D.told D.may_leave d seed c.args.disk c.in-Ok.room) c.digest.ensures c.in-Ok.ensures.resumes in
    run_fault L.heard L.sent L.faults L.opened L.is_shut D.may_leave D.told D.faults digest seed c.args.disk c.in-Ok.room r c.args.terms.accept c.host.result.disk c.host.result.served (g.G.Gate.faults c.host.result.gate) (g.G.Gate.left c.host.result.gate) (g.G.Gate.ended c.host.result.gate) c.host.result.outcome c.host.ensures.run
    c.in-Ok.ensures.disk c.in-Ok.ensures.count is

pub returns-in-Ok-clause-tells : goal.returns-in-Ok-clause-tells
returns-in-Ok-clause-tells g c =
    let D = g.D.Disk in let L = g.G.Line.Link in let digest = digest_of c.args.file.now in let seed = c.args.multidata in
    let r = subst (λ d. Resumes D.told D.may_leave d seed c.args.disk c.in-Ok.room) c.digest.ensures c.in-Ok.ensures.resumes in
    run_tells L.heard L.sent L.faults L.opened L.is_shut D.may_leave D.told D.faults digest seed c.args.disk c.in-Ok.room r c.args.terms.accept c.host.result.disk c.host.result.served (g.G.Gate.faults c.host.result.gate) (g.G.Gate.left c.host.result.gate) (g.G.Gate.ended c.host.result.gate) c.host.result.outcome c.host.ensures.run
    c.in-Ok.ensures.disk c.in-Ok.ensures.tells

pub returns-in-Ok-clause-count : goal.returns-in-Ok-clause-count
returns-in-Ok-clause-count g c =
    let D = g.D.Disk in let L = g.G.Line.Link in let digest = digest_of c.args.file.now in let seed = c.args.multidata in
    let r = subst (λ d. Resumes D.told D.may_leave d seed c.args.disk c.in-Ok.room) c.digest.ensures c.in-Ok.ensures.resumes in
    run_count L.heard L.sent L.faults L.opened L.is_shut D.may_leave D.told D.faults digest seed c.args.disk c.in-Ok.room r c.args.terms.accept c.host.result.disk c.host.result.served (g.G.Gate.faults c.host.result.gate) (g.G.Gate.left c.host.result.gate) (g.G.Gate.ended c.host.result.gate) c.host.result.outcome c.host.ensures.run
    c.in-Ok.ensures.disk c.in-Ok.ensures.count

pub returns-in-Err-clause-short : goal.returns-in-Err-clause-short
returns-in-Err-clause-short g c = inl record {
  none = c.new.ensures;
  as_settled = λ text body settled f image.
      let leaves = subst (λ (d : List ℕ). LeavesOnly g.D.Disk.moment g.D.Disk.left_since c.args.disk c.in-Err.disk (λ x. IsSettled x d text body)) c.digest.ensures
      (c.in-Err.ensures.any_moment text body (subst (λ (d : List ℕ). AllSettled (g.D.Disk.may_leave c.args.disk) d text body) (sym c.digest.ensures) settled)) in
      let met = g.met.D.Disk g.world.𝓛 g.world.𝓜 g.world.𝓡 (λ s x. x, λ x. x, λ x. x, λ x. x) in
      leaves.each f (met.counts_now c.in-Err.disk (g.D.Disk.moment c.args.disk) f leaves.later image);
  read = λ foreign.
      let reads = c.in-Err.ensures.read (foreign_error c.in-Err.error c.drive_error.result c.drive_error.ensures foreign) in
      (reads.same, reads.stays);
  cause = cause_of (g.D.Disk.told c.args.disk) (digest_of c.args.file.now) c.args.multidata (g.D.Disk.faults c.args.disk) (g.D.Disk.faults c.in-Err.disk) c.in-Err.error c.drive_error.result c.drive_error.ensures
      (subst (λ (d : List ℕ). RefusesResume (g.D.Disk.told c.args.disk) d c.args.multidata (g.D.Disk.faults c.args.disk) (g.D.Disk.faults c.in-Err.disk) c.in-Err.error) c.digest.ensures c.in-Err.ensures.refused);
}

pub returns-in-Err-clause-found : goal.returns-in-Err-clause-found
returns-in-Err-clause-found g c = inl (
  (λ text body settled f image.
      let leaves = subst (λ (d : List ℕ). LeavesOnly g.D.Disk.moment g.D.Disk.left_since c.args.disk c.in-Err.disk (λ x. IsSettled x d text body)) c.digest.ensures
      (c.in-Err.ensures.any_moment text body (subst (λ (d : List ℕ). AllSettled (g.D.Disk.may_leave c.args.disk) d text body) (sym c.digest.ensures) settled)) in
      let met = g.met.D.Disk g.world.𝓛 g.world.𝓜 g.world.𝓡 (λ s x. x, λ x. x, λ x. x, λ x. x) in
      leaves.each f (met.counts_now c.in-Err.disk (g.D.Disk.moment c.args.disk) f leaves.later image)),
  c.new.ensures,
)

pub returns-in-Err-clause-accepted : goal.returns-in-Err-clause-accepted
returns-in-Err-clause-accepted g c steps some left of =
    unopened_accepted c.in-Err.error
    (c.in-Err.ensures.accepted steps
    (some, c.lives_keep.ensures.seed c.args.multidata steps, subst (λ (d : List ℕ). IsLeft (g.D.Disk.may_leave c.args.disk) d (life_after_all c.args.multidata steps)) (sym c.digest.ensures) left))
    (subst IsOfJournal c.drive_error.ensures of)

pub returns-in-Ok-clause-listened : goal.returns-in-Ok-clause-listened
returns-in-Ok-clause-listened g c =
    let D = g.D.Disk in let digest = digest_of c.args.file.now in let seed = c.args.multidata in
    let r = subst (λ d. Resumes D.told D.may_leave d seed c.args.disk c.in-Ok.room) c.digest.ensures c.in-Ok.ensures.resumes in
    listens_more (Unit {0}) (Finds (IsFound (D.told c.args.disk) (D.may_leave c.args.disk) digest seed)) _ _ _ _ _ (λ _. (r.journal, r.place, record { sound = r.sound; stands = r.stands; one = r.one })) (λ d. d) c.host.ensures.listened

pub returns-in-Err-clause-listened : goal.returns-in-Err-clause-listened
returns-in-Err-clause-listened g c = inl (refl, λ no. cc)
