use Rattle.std.proofs.Common.{◌≡◌, ◌⊎◌, Ok, refl, inl, inr, sym, subst, arith}
use Rattle.std.proofs.KnownBytes.{Keeps-refl}
use Rattle.std.specs.Prelude.{IfErr, IfOk}
use Rattle.mw_multidata.specs.Digest.{digest_of}
use Rattle.mw_multidata.specs.SeedOf.{SeedOf}
use Rattle.mw_session.specs.Rooms.{count_all}
use Rattle.mw_drive.specs.Ends.{IsAsRead, IsFound, Refuses, StaysSettled}
use Rattle.mw_pair.specs.Choosing.{IsClosedRoom}
use Rattle.mw_pair.specs.Folders.{OthersStay}
use Rattle.mw_pair.specs.declared.choosing.Chosen.{Chosen}
use Rattle.mw_pair.proofs.Steps.{others_then}
use Rattle.mw_offline.proofs.PairDriving.{stopped_stays}
use Rattle.mw_serve.specs.Hosted.{Finds, HostsShort, HostsToEnd, IsUnserved}
use Rattle.mw_serve.specs.Sent.{SendsFound}
use Rattle.mw_serve.proofs.Hosts.{listens_more}
use Rattle.mw_serve.proofs.Pairs.{pair_done, pair_finishes_all, pair_found, pair_kept, pair_leaves, pair_stays, pair_stopped}
use Rattle.mw_serve.proofs.serve_pair.serve_pair.Goals as goal

pub returns-in-Err-clause-stopped : goal.returns-in-Err-clause-stopped
returns-in-Err-clause-stopped g c = inl record { stopped = c.in-Err.ensures.stopped; none = c.new.ensures; quiet = Keeps-refl (g.O.Sink.held c.args.out.now) }

pub returns-in-Err-clause-kept : goal.returns-in-Err-clause-kept
returns-in-Err-clause-kept g c =
    let F = g.F.Folder in
    inl (
      c.new.ensures,
      stopped_stays F.holds F.images F.is_open F.may_fail F.faults c.args.folder.now c.open_pair_room.new.folder c.args.words.now.multidata c.args.words.now.journal c.in-Err.stop c.in-Err.ensures.stopped,
    )

pub returns-in-Err-clause-listened : goal.returns-in-Err-clause-listened
returns-in-Err-clause-listened g c = inl (refl, λ no. cc)

pub returns-clause-done : goal.returns-clause-done
returns-clause-done g c =
    let F = g.F.Folder in let D = g.F.Drive.Disk in let L = g.G.Line.Link in
    let first = c.args.folder.now in
    let last = c.close_chosen.new.folder in
    let named = c.args.words.now in
    let opened = c.in-Ok.ensures in
    let seed = c.in-Ok.room.seed in
    let room = c.in-Ok.room.room in
    let e = c.host_on-disk.result in
    let ran = c.host_on-disk.ensures in
    let old = g.O.Sink.held c.args.out.now in
    let new = g.O.Sink.held c.finish_pair.new.out in
    let back : Chosen g.row.F-Drive.Denot = record { choice = room.choice; journal = e.disk; other = room.other; named = room.named } in
    let closed = subst (λ n. IsClosedRoom D.told D.may_leave (F.holds last) (F.images last) (F.is_open last) n back) opened.names c.close_chosen.ensures.closed in
    let file = c.as_slice.ensures in
    pair_done L.heard L.sent L.faults L.opened L.is_shut D.told D.may_leave D.faults F.holds F.images F.is_open F.may_fail F.faults first last named seed.bytes seed.multidata opened.seed.0 opened.seed.1 room opened.opened opened.shut e.disk closed e.served old new e.outcome c.finish_pair.result c.finish_pair.ensures.finishes
    (subst (λ b. IfOk e.outcome (λ n. (n ≡ count_all e.served) × HostsToEnd L.heard L.sent L.faults L.opened L.is_shut D.may_leave (IsFound (D.told room.journal) (D.may_leave room.journal) (digest_of b) seed.multidata) (D.may_leave e.disk) (digest_of b) seed.multidata e.served)) file ran.done)

pub returns-clause-stopped : goal.returns-clause-stopped
returns-clause-stopped g c =
    let F = g.F.Folder in let D = g.F.Drive.Disk in let L = g.G.Line.Link in
    let first = c.args.folder.now in
    let last = c.close_chosen.new.folder in
    let named = c.args.words.now in
    let opened = c.in-Ok.ensures in
    let seed = c.in-Ok.room.seed in
    let room = c.in-Ok.room.room in
    let e = c.host_on-disk.result in
    let ran = c.host_on-disk.ensures in
    let old = g.O.Sink.held c.args.out.now in
    let new = g.O.Sink.held c.finish_pair.new.out in
    let back : Chosen g.row.F-Drive.Denot = record { choice = room.choice; journal = e.disk; other = room.other; named = room.named } in
    let closed = subst (λ n. IsClosedRoom D.told D.may_leave (F.holds last) (F.images last) (F.is_open last) n back) opened.names c.close_chosen.ensures.closed in
    let file = c.as_slice.ensures in
    pair_stopped L.heard L.sent L.faults L.opened L.is_shut D.told D.may_leave D.faults F.holds F.images F.is_open F.may_fail F.faults first last named seed.bytes seed.multidata opened.seed.0 opened.seed.1 room opened.opened opened.shut e.disk closed e.served old new e.outcome c.finish_pair.result c.finish_pair.ensures.finishes
    (subst (λ b. IfOk e.outcome (λ n. (n ≡ count_all e.served) × HostsToEnd L.heard L.sent L.faults L.opened L.is_shut D.may_leave (IsFound (D.told room.journal) (D.may_leave room.journal) (digest_of b) seed.multidata) (D.may_leave e.disk) (digest_of b) seed.multidata e.served)) file ran.done)
    (subst (λ b. IfErr e.outcome (λ error. IsUnserved (Refuses (D.told room.journal) (digest_of b) seed.multidata) (StaysSettled (D.may_leave room.journal) (D.may_leave e.disk) (digest_of b)) (IsAsRead (D.told room.journal) (D.told e.disk) (D.may_leave room.journal) (D.may_leave e.disk)) e.served error ⊎ HostsShort L.heard L.sent L.faults L.opened L.is_shut D.may_leave (IsFound (D.told room.journal) (D.may_leave room.journal) (digest_of b) seed.multidata) (D.may_leave e.disk) (digest_of b) seed.multidata e.served error)) file ran.short)

pub returns-clause-kept : goal.returns-clause-kept
returns-clause-kept g c =
    let F = g.F.Folder in let D = g.F.Drive.Disk in let L = g.G.Line.Link in
    let first = c.args.folder.now in
    let last = c.close_chosen.new.folder in
    let named = c.args.words.now in
    let opened = c.in-Ok.ensures in
    let seed = c.in-Ok.room.seed in
    let room = c.in-Ok.room.room in
    let e = c.host_on-disk.result in
    let ran = c.host_on-disk.ensures in
    let old = g.O.Sink.held c.args.out.now in
    let new = g.O.Sink.held c.finish_pair.new.out in
    let back : Chosen g.row.F-Drive.Denot = record { choice = room.choice; journal = e.disk; other = room.other; named = room.named } in
    let closed = subst (λ n. IsClosedRoom D.told D.may_leave (F.holds last) (F.images last) (F.is_open last) n back) opened.names c.close_chosen.ensures.closed in
    let file = c.as_slice.ensures in
    pair_kept L.heard L.sent L.faults L.opened L.is_shut D.told D.may_leave D.faults F.holds F.images F.is_open F.may_fail F.faults first last named seed.bytes seed.multidata opened.seed.0 opened.seed.1 room opened.opened opened.shut e.disk closed e.served
    (record { shown = c.shown_is_checked.ensures; tails = c.tails_of_the_last_view.ensures; shown_across = c.shown_is_checked_across.ensures; tails_across = c.tails_across.ensures })
    (subst (λ b. SendsFound L.sent (IsFound (D.told room.journal) (D.may_leave room.journal) (digest_of b) seed.multidata) (StaysSettled (D.may_leave room.journal) (D.may_leave e.disk) (digest_of b)) (D.may_leave e.disk) (digest_of b) seed.multidata e.served) file ran.found)

pub returns-clause-leaves : goal.returns-clause-leaves
returns-clause-leaves g c =
    let F = g.F.Folder in let D = g.F.Drive.Disk in let L = g.G.Line.Link in
    let first = c.args.folder.now in
    let last = c.close_chosen.new.folder in
    let named = c.args.words.now in
    let opened = c.in-Ok.ensures in
    let seed = c.in-Ok.room.seed in
    let room = c.in-Ok.room.room in
    let e = c.host_on-disk.result in
    let ran = c.host_on-disk.ensures in
    let old = g.O.Sink.held c.args.out.now in
    let new = g.O.Sink.held c.finish_pair.new.out in
    let back : Chosen g.row.F-Drive.Denot = record { choice = room.choice; journal = e.disk; other = room.other; named = room.named } in
    let closed = subst (λ n. IsClosedRoom D.told D.may_leave (F.holds last) (F.images last) (F.is_open last) n back) opened.names c.close_chosen.ensures.closed in
    let file = c.as_slice.ensures in
    pair_leaves L.heard L.sent L.faults L.opened L.is_shut D.told D.may_leave D.faults F.holds F.images F.is_open F.may_fail F.faults first last named seed.bytes seed.multidata opened.seed.0 opened.seed.1 room opened.opened opened.shut e.disk closed e.served
    (others_then F.holds F.images F.is_open D.told D.may_leave D.faults first c.open_pair_room.new.folder last named.journal c.open_pair_room.ensures.others
    (subst (OthersStay (F.holds c.open_pair_room.new.folder) (F.holds last) (F.images c.open_pair_room.new.folder) (F.images last) (F.is_open c.open_pair_room.new.folder) (F.is_open last)) opened.names c.close_chosen.ensures.others))
    ran.tells

pub returns-clause-stays : goal.returns-clause-stays
returns-clause-stays g c =
    let F = g.F.Folder in let D = g.F.Drive.Disk in let L = g.G.Line.Link in
    let first = c.args.folder.now in
    let last = c.close_chosen.new.folder in
    let named = c.args.words.now in
    let opened = c.in-Ok.ensures in
    let seed = c.in-Ok.room.seed in
    let room = c.in-Ok.room.room in
    let e = c.host_on-disk.result in
    let ran = c.host_on-disk.ensures in
    let old = g.O.Sink.held c.args.out.now in
    let new = g.O.Sink.held c.finish_pair.new.out in
    let back : Chosen g.row.F-Drive.Denot = record { choice = room.choice; journal = e.disk; other = room.other; named = room.named } in
    let closed = subst (λ n. IsClosedRoom D.told D.may_leave (F.holds last) (F.images last) (F.is_open last) n back) opened.names c.close_chosen.ensures.closed in
    let file = c.as_slice.ensures in
    pair_stays L.heard L.sent L.faults L.opened L.is_shut D.told D.may_leave D.faults F.holds F.images F.is_open F.may_fail F.faults first last named seed.bytes seed.multidata opened.seed.0 opened.seed.1 room opened.opened opened.shut e.disk closed e.served

pub returns-clause-listened : goal.returns-clause-listened
returns-clause-listened g c =
    let F = g.F.Folder in let D = g.F.Drive.Disk in let L = g.G.Line.Link in
    let first = c.args.folder.now in
    let last = c.close_chosen.new.folder in
    let named = c.args.words.now in
    let opened = c.in-Ok.ensures in
    let seed = c.in-Ok.room.seed in
    let room = c.in-Ok.room.room in
    let e = c.host_on-disk.result in
    let ran = c.host_on-disk.ensures in
    let old = g.O.Sink.held c.args.out.now in
    let new = g.O.Sink.held c.finish_pair.new.out in
    let back : Chosen g.row.F-Drive.Denot = record { choice = room.choice; journal = e.disk; other = room.other; named = room.named } in
    let closed = subst (λ n. IsClosedRoom D.told D.may_leave (F.holds last) (F.images last) (F.is_open last) n back) opened.names c.close_chosen.ensures.closed in
    let file = c.as_slice.ensures in
    listens_more _ _ _ _ _ _ _ (λ found. pair_found L.heard L.sent L.faults L.opened L.is_shut D.told D.may_leave D.faults F.holds F.images F.is_open F.may_fail F.faults first last named seed.bytes seed.multidata opened.seed.0 opened.seed.1 room opened.opened opened.shut e.disk closed e.served (subst (λ b. Finds (IsFound (D.told room.journal) (D.may_leave room.journal) (digest_of b) seed.multidata)) file found))
    (λ done. pair_finishes_all e.outcome old new c.finish_pair.result c.finish_pair.ensures.finishes done) ran.listened

pub host_on-disk-requires-clause-seed : goal.host_on-disk-requires-clause-seed
host_on-disk-requires-clause-seed g c κs lives = subst (λ b. SeedOf b (Ok c.in-Ok.room.seed.multidata)) (sym c.as_slice.ensures) c.in-Ok.ensures.seed.1

pub returns-clause-fault : goal.returns-clause-fault
returns-clause-fault g c is =
    let D = g.F.Drive.Disk in
    let room = c.in-Ok.room.room in
    let e = c.host_on-disk.result in
    elim (c.finish_pair.ensures.fault is) [
      | inl failed ↦ elim (c.host_on-disk.ensures.fault failed) [
        | inl risen ↦ inl (omega (arith, c.close_chosen.ensures.count.journal (omega (arith, risen)), c.open_pair_room.ensures.later))
        | inr gate ↦ inr (inl gate)
      ]
      | inr put ↦ inr (inr put)
    ]
