use Rattle.std.proofs.Common.{true, ◌≡◌, List, subst}
use Rattle.std.specs.Option.{is_some}
use Rattle.std.specs.Prelude.{IfErr}
use Rattle.mw_multidata.specs.Digest.{digest_of}
use Rattle.mw_protocol.specs.Lives.{Step, life_after_all}
use Rattle.mw_keep.specs.Left.{IsLeft}
use Rattle.mw_drive.specs.Left.{KeepsFound}
use Rattle.mw_drive.specs.Ends.{IsAsRead, IsFound, IsOfJournal, Refuses, StaysSettled, StopsWith}
use Rattle.mw_offline.proofs.drive_pair.play.Goals as goal

pub returns-clause-stopped : goal.returns-clause-stopped
returns-clause-stopped g c =
    let D = g.D.Disk in
    let before = c.args.room.journal in
    let after = c.drive_on-journal.result.0 in
    let seed = c.args.seed.multidata in
    let old = g.O.Sink.held c.args.out.now in
    let new = g.O.Sink.held c.drive_on-journal.new.out in
    subst (λ b. IfErr c.drive_on-journal.result.1 (StopsWith g.S.Source.left (IsFound (D.told before) (D.may_leave before) (digest_of b) seed) (Refuses (D.told before) (digest_of b) seed) (StaysSettled (D.may_leave before) (D.may_leave after) (digest_of b))
    (IsAsRead (D.told before) (D.told after) (D.may_leave before) (D.may_leave after)) (D.told before) (D.may_leave after) (digest_of b) seed c.args.input.now c.drive_on-journal.new.input old new)) c.as_slice.ensures c.drive_on-journal.ensures.stopped

pub returns-clause-accepted : goal.returns-clause-accepted
returns-clause-accepted g c =
    let D = g.D.Disk in
    let before = c.args.room.journal in
    let seed = c.args.seed.multidata in
    subst (λ b. IfErr c.drive_on-journal.result.1 (λ error. (steps : List Step) → is_some (D.told before) ≡ true → IsLeft (D.may_leave before) (digest_of b) (life_after_all seed steps) → IsOfJournal error → ⊥)) c.as_slice.ensures c.drive_on-journal.ensures.accepted

pub returns-clause-found : goal.returns-clause-found
returns-clause-found g c =
    let D = g.D.Disk in
    let before = c.args.room.journal in
    let after = c.drive_on-journal.result.0 in
    let seed = c.args.seed.multidata in
    let old = g.O.Sink.held c.args.out.now in
    let new = g.O.Sink.held c.drive_on-journal.new.out in
    subst (λ b. is_some (D.told before) ≡ true
    → KeepsFound (IsFound (D.told before) (D.may_leave before) (digest_of b) seed) (StaysSettled (D.may_leave before) (D.may_leave after) (digest_of b)) (D.may_leave after) (digest_of b) seed old new) c.as_slice.ensures c.drive_on-journal.ensures.found
