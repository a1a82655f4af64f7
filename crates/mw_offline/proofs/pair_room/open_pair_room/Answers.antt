use Rattle.std.proofs.Common.{Ok, subst, sym}
use Rattle.mw_multidata.specs.Digest.{digest_of}
use Rattle.mw_multidata.specs.SeedOf.{SeedOf}
use Rattle.mw_causes.specs.SeedFiles.{IsFile}
use Rattle.mw_pair.specs.Choosing.{IsOpenedRoom}
use Rattle.mw_offline.proofs.PairDriving.{opened_since, refused_leaves, refused_stays, room_refused}
use Rattle.mw_offline.proofs.PairFiles.{others_since}
use Rattle.mw_offline.proofs.pair_room.open_pair_room.Goals as goal

pub returns-in-Ok-open_named-clause-seed : goal.returns-in-Ok-open_named-clause-seed
returns-in-Ok-open_named-clause-seed g c =
    subst (λ s. IsFile (g.F.Folder.holds c.args.folder.now c.args.multidata.now) s.bytes × SeedOf s.bytes (Ok s.multidata)) (sym c.in-Ok-open_named.ensures.same.0) c.in-Ok.ensures.ok

pub returns-in-Ok-open_named-clause-opened : goal.returns-in-Ok-open_named-clause-opened
returns-in-Ok-open_named-clause-opened g c =
    let F = g.F.Folder in let D = g.F.Drive.Disk in
    let first = c.args.folder.now in
    let second = c.read_seed_bytes.new.folder in
    let read = c.in-Ok.ensures in
    let room = c.in-Ok-open_named.room in
    subst (λ s. IsOpenedRoom D.told D.may_leave D.faults (F.holds first) (F.images first) c.args.choice.now (digest_of s.bytes) room.room) (sym c.in-Ok-open_named.ensures.same.0)
    (opened_since F.holds F.images F.is_open F.may_fail F.faults first second c.open_named.new.folder read.same read.crash read.opened c.args.choice.now (digest_of c.in-Ok.seed.bytes) D.told D.may_leave D.faults room.room
    c.in-Ok-open_named.ensures.opened)

pub returns-in-Ok-open_named-clause-others : goal.returns-in-Ok-open_named-clause-others
returns-in-Ok-open_named-clause-others g c =
    let F = g.F.Folder in
    let read = c.in-Ok.ensures in
    others_since F.holds F.images F.is_open F.may_fail F.faults c.args.folder.now c.read_seed_bytes.new.folder c.open_named.new.folder read.same read.crash read.opened c.args.choice.now c.open_named.ensures.others

pub returns-in-Err-open_named-clause-others : goal.returns-in-Err-open_named-clause-others
returns-in-Err-open_named-clause-others g c =
    let F = g.F.Folder in
    let read = c.in-Ok.ensures in
    others_since F.holds F.images F.is_open F.may_fail F.faults c.args.folder.now c.read_seed_bytes.new.folder c.open_named.new.folder read.same read.crash read.opened c.args.choice.now c.open_named.ensures.others

pub returns-in-Err-open_named-clause-stopped : goal.returns-in-Err-open_named-clause-stopped
returns-in-Err-open_named-clause-stopped g c =
    let F = g.F.Folder in
    let read = c.in-Ok.ensures in
    let seed = c.in-Ok.seed in
    room_refused F.holds F.images F.is_open F.may_fail F.faults c.args.folder.now c.read_seed_bytes.new.folder c.open_named.new.folder read.same read.crash read.opened c.args.multidata.now c.args.choice.now seed.bytes seed.multidata
    read.ok.0 read.ok.1 c.in-Err-open_named.stop c.in-Err-open_named.ensures.refused

pub returns-in-Err-open_named-clause-leaves : goal.returns-in-Err-open_named-clause-leaves
returns-in-Err-open_named-clause-leaves g c =
    let F = g.F.Folder in
    let first = c.args.folder.now in
    let second = c.read_seed_bytes.new.folder in
    let last = c.open_named.new.folder in
    let read = c.in-Ok.ensures in
    let seed = c.in-Ok.seed in
    refused_leaves F.holds F.images F.is_open F.may_fail F.faults first second last read.same read.crash read.opened c.args.multidata.now c.args.choice.now seed.bytes seed.multidata read.ok.0 read.ok.1 c.in-Err-open_named.stop
    c.in-Err-open_named.ensures.refused
    (others_since F.holds F.images F.is_open F.may_fail F.faults first second last read.same read.crash read.opened c.args.choice.now c.open_named.ensures.others)

pub returns-in-Err-open_named-clause-stays : goal.returns-in-Err-open_named-clause-stays
returns-in-Err-open_named-clause-stays g c =
    let F = g.F.Folder in
    let read = c.in-Ok.ensures in
    let seed = c.in-Ok.seed in
    refused_stays F.holds F.images F.is_open F.may_fail F.faults c.args.folder.now c.read_seed_bytes.new.folder c.open_named.new.folder read.same read.crash read.opened c.args.multidata.now c.args.choice.now seed.bytes seed.multidata
    read.ok.0 read.ok.1 c.in-Err-open_named.stop c.in-Err-open_named.ensures.refused
