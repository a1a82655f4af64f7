use Rattle.std.proofs.Common.{◌≡◌, ◌∙◌, Err, refl, sym, ap, inl, inr, subst, arith}
use Rattle.mw_causes.specs.declared.stop.Stop.TheVariants.{Fault}
use Rattle.mw_drive.specs.declared.error.DriveError.TheVariants as why
use Rattle.std.proofs.KnownBytes.{Keeps-refl}
use Rattle.mw_pair.specs.Choosing.{IsClosedRoom}
use Rattle.mw_pair.specs.Folders.{OthersStay}
use Rattle.mw_pair.proofs.Steps.{others_then}
use Rattle.mw_offline.proofs.PairDriving.{play_done, play_keeps, play_leaves, play_stays, play_stopped, played_fault, stopped_stays}
use Rattle.mw_offline.proofs.drive_pair.drive_pair.Goals as goal

pub returns-in-Err-clause-stopped : goal.returns-in-Err-clause-stopped
returns-in-Err-clause-stopped g c = inl record { stopped = c.in-Err.ensures.stopped; untouched = refl; quiet = Keeps-refl (g.O.Sink.held c.args.out.now) }

pub returns-in-Err-clause-kept : goal.returns-in-Err-clause-kept
returns-in-Err-clause-kept g c =
    let F = g.F.Folder in
    inl (
      Keeps-refl (g.O.Sink.held c.args.out.now),
      stopped_stays F.holds F.images F.is_open F.may_fail F.faults c.args.folder.now c.open_pair_room.new.folder c.args.multidata.now c.args.choice.now c.in-Err.stop c.in-Err.ensures.stopped,
    )

pub returns-in-Ok-outcome-clause-done : goal.returns-in-Ok-outcome-clause-done
returns-in-Ok-outcome-clause-done g c =
    let F = g.F.Folder in let D = g.F.Drive.Disk in
    let first = c.args.folder.now in
    let last = c.close_chosen.new.folder in
    let choice = c.args.choice.now in
    let opened = c.in-Ok.ensures in
    let seed = c.in-Ok.room.seed in
    let room = c.in-Ok.room.room in
    let back = c.play-room.result.0 in
    let old = g.O.Sink.held c.args.out.now in
    let new = g.O.Sink.held c.play-room.new.out in
    let closed = subst (λ n. IsClosedRoom D.told D.may_leave (F.holds last) (F.images last) (F.is_open last) n back) opened.names c.close_chosen.ensures.closed in
    play_done F.holds F.images F.is_open F.may_fail F.faults D.told D.may_leave D.faults first last c.args.multidata.now choice seed.bytes seed.multidata opened.seed.0 opened.seed.1 room opened.opened opened.shut back c.play-room.ensures.same closed old new g.S.Source.left c.args.input.now c.play-room.new.input c.play-room.result.1 c.in-Ok-outcome.field-0 c.in-Ok-outcome.is c.play-room.ensures.done

pub returns-in-Ok-outcome-clause-leaves : goal.returns-in-Ok-outcome-clause-leaves
returns-in-Ok-outcome-clause-leaves g c =
    let F = g.F.Folder in let D = g.F.Drive.Disk in
    let first = c.args.folder.now in
    let last = c.close_chosen.new.folder in
    let choice = c.args.choice.now in
    let opened = c.in-Ok.ensures in
    let seed = c.in-Ok.room.seed in
    let room = c.in-Ok.room.room in
    let back = c.play-room.result.0 in
    let old = g.O.Sink.held c.args.out.now in
    let new = g.O.Sink.held c.play-room.new.out in
    let closed = subst (λ n. IsClosedRoom D.told D.may_leave (F.holds last) (F.images last) (F.is_open last) n back) opened.names c.close_chosen.ensures.closed in
    play_leaves F.holds F.images F.is_open F.may_fail F.faults D.told D.may_leave D.faults first last c.args.multidata.now choice seed.bytes seed.multidata opened.seed.0 opened.seed.1 room opened.opened opened.shut back c.play-room.ensures.same closed
    (others_then F.holds F.images F.is_open D.told D.may_leave D.faults first c.open_pair_room.new.folder last choice c.open_pair_room.ensures.others
    (subst (OthersStay (F.holds c.open_pair_room.new.folder) (F.holds last) (F.images c.open_pair_room.new.folder) (F.images last) (F.is_open c.open_pair_room.new.folder) (F.is_open last)) opened.names c.close_chosen.ensures.others))
    c.play-room.ensures.tells

pub returns-in-Ok-outcome-clause-stays : goal.returns-in-Ok-outcome-clause-stays
returns-in-Ok-outcome-clause-stays g c =
    let F = g.F.Folder in let D = g.F.Drive.Disk in
    let first = c.args.folder.now in
    let last = c.close_chosen.new.folder in
    let choice = c.args.choice.now in
    let opened = c.in-Ok.ensures in
    let seed = c.in-Ok.room.seed in
    let room = c.in-Ok.room.room in
    let back = c.play-room.result.0 in
    let old = g.O.Sink.held c.args.out.now in
    let new = g.O.Sink.held c.play-room.new.out in
    let closed = subst (λ n. IsClosedRoom D.told D.may_leave (F.holds last) (F.images last) (F.is_open last) n back) opened.names c.close_chosen.ensures.closed in
    play_stays F.holds F.images F.is_open F.may_fail F.faults D.told D.may_leave D.faults first last c.args.multidata.now choice seed.bytes seed.multidata opened.seed.0 opened.seed.1 room opened.opened opened.shut back c.play-room.ensures.same closed

pub returns-in-Ok-outcome-clause-kept : goal.returns-in-Ok-outcome-clause-kept
returns-in-Ok-outcome-clause-kept g c =
    let F = g.F.Folder in let D = g.F.Drive.Disk in
    let first = c.args.folder.now in
    let last = c.close_chosen.new.folder in
    let choice = c.args.choice.now in
    let opened = c.in-Ok.ensures in
    let seed = c.in-Ok.room.seed in
    let room = c.in-Ok.room.room in
    let back = c.play-room.result.0 in
    let old = g.O.Sink.held c.args.out.now in
    let new = g.O.Sink.held c.play-room.new.out in
    let closed = subst (λ n. IsClosedRoom D.told D.may_leave (F.holds last) (F.images last) (F.is_open last) n back) opened.names c.close_chosen.ensures.closed in
    play_keeps F.holds F.images F.is_open F.may_fail F.faults D.told D.may_leave D.faults first last c.args.multidata.now choice seed.bytes seed.multidata opened.seed.0 opened.seed.1 room opened.opened opened.shut back c.play-room.ensures.same closed old new
    (record { shown = c.shown_is_checked.ensures; tails = c.tails_of_the_last_view.ensures; shown_across = c.shown_is_checked_across.ensures; tails_across = c.tails_across.ensures }) c.play-room.ensures.found

pub returns-clause-stopped : goal.returns-clause-stopped
returns-clause-stopped g c =
    let F = g.F.Folder in let D = g.F.Drive.Disk in
    let first = c.args.folder.now in
    let last = c.close_chosen.new.folder in
    let choice = c.args.choice.now in
    let opened = c.in-Ok.ensures in
    let seed = c.in-Ok.room.seed in
    let room = c.in-Ok.room.room in
    let back = c.play-room.result.0 in
    let old = g.O.Sink.held c.args.out.now in
    let new = g.O.Sink.held c.play-room.new.out in
    let closed = subst (λ n. IsClosedRoom D.told D.may_leave (F.holds last) (F.images last) (F.is_open last) n back) opened.names c.close_chosen.ensures.closed in
    play_stopped F.holds F.images F.is_open F.may_fail F.faults D.told D.may_leave D.faults first last c.args.multidata.now choice seed.bytes seed.multidata opened.seed.0 opened.seed.1 room opened.opened opened.shut back c.play-room.ensures.same closed old new g.S.Source.left c.args.input.now c.play-room.new.input c.play-room.result.1 c.in-Err-outcome.error c.in-Err-outcome.is c.from.result c.from.ensures c.play-room.ensures.stopped c.play-room.ensures.accepted

pub returns-clause-leaves : goal.returns-clause-leaves
returns-clause-leaves g c =
    let F = g.F.Folder in let D = g.F.Drive.Disk in
    let first = c.args.folder.now in
    let last = c.close_chosen.new.folder in
    let choice = c.args.choice.now in
    let opened = c.in-Ok.ensures in
    let seed = c.in-Ok.room.seed in
    let room = c.in-Ok.room.room in
    let back = c.play-room.result.0 in
    let old = g.O.Sink.held c.args.out.now in
    let new = g.O.Sink.held c.play-room.new.out in
    let closed = subst (λ n. IsClosedRoom D.told D.may_leave (F.holds last) (F.images last) (F.is_open last) n back) opened.names c.close_chosen.ensures.closed in
    play_leaves F.holds F.images F.is_open F.may_fail F.faults D.told D.may_leave D.faults first last c.args.multidata.now choice seed.bytes seed.multidata opened.seed.0 opened.seed.1 room opened.opened opened.shut back c.play-room.ensures.same closed
    (others_then F.holds F.images F.is_open D.told D.may_leave D.faults first c.open_pair_room.new.folder last choice c.open_pair_room.ensures.others
    (subst (OthersStay (F.holds c.open_pair_room.new.folder) (F.holds last) (F.images c.open_pair_room.new.folder) (F.images last) (F.is_open c.open_pair_room.new.folder) (F.is_open last)) opened.names c.close_chosen.ensures.others))
    c.play-room.ensures.tells

pub returns-clause-stays : goal.returns-clause-stays
returns-clause-stays g c =
    let F = g.F.Folder in let D = g.F.Drive.Disk in
    let first = c.args.folder.now in
    let last = c.close_chosen.new.folder in
    let choice = c.args.choice.now in
    let opened = c.in-Ok.ensures in
    let seed = c.in-Ok.room.seed in
    let room = c.in-Ok.room.room in
    let back = c.play-room.result.0 in
    let old = g.O.Sink.held c.args.out.now in
    let new = g.O.Sink.held c.play-room.new.out in
    let closed = subst (λ n. IsClosedRoom D.told D.may_leave (F.holds last) (F.images last) (F.is_open last) n back) opened.names c.close_chosen.ensures.closed in
    play_stays F.holds F.images F.is_open F.may_fail F.faults D.told D.may_leave D.faults first last c.args.multidata.now choice seed.bytes seed.multidata opened.seed.0 opened.seed.1 room opened.opened opened.shut back c.play-room.ensures.same closed

pub returns-clause-kept : goal.returns-clause-kept
returns-clause-kept g c =
    let F = g.F.Folder in let D = g.F.Drive.Disk in
    let first = c.args.folder.now in
    let last = c.close_chosen.new.folder in
    let choice = c.args.choice.now in
    let opened = c.in-Ok.ensures in
    let seed = c.in-Ok.room.seed in
    let room = c.in-Ok.room.room in
    let back = c.play-room.result.0 in
    let old = g.O.Sink.held c.args.out.now in
    let new = g.O.Sink.held c.play-room.new.out in
    let closed = subst (λ n. IsClosedRoom D.told D.may_leave (F.holds last) (F.images last) (F.is_open last) n back) opened.names c.close_chosen.ensures.closed in
    play_keeps F.holds F.images F.is_open F.may_fail F.faults D.told D.may_leave D.faults first last c.args.multidata.now choice seed.bytes seed.multidata opened.seed.0 opened.seed.1 room opened.opened opened.shut back c.play-room.ensures.same closed old new
    (record { shown = c.shown_is_checked.ensures; tails = c.tails_of_the_last_view.ensures; shown_across = c.shown_is_checked_across.ensures; tails_across = c.tails_across.ensures }) c.play-room.ensures.found

pub returns-clause-fault : goal.returns-clause-fault
returns-clause-fault g c is =
    let stop : c.from.result ≡ Fault = cc in
    let error : c.in-Err-outcome.error ≡ why.Fault = played_fault c.in-Err-outcome.error (sym c.from.ensures ∙ stop) in
    elim (c.play-room.ensures.fault (c.in-Err-outcome.is ∙ ap Err error)) [
      | inl risen ↦ inl (omega (arith, c.close_chosen.ensures.count.journal (omega (arith, risen)), c.open_pair_room.ensures.later))
      | inr other ↦ inr other
    ]
