use Rattle.std.proofs.Common.{Err, ap, inl}
use Rattle.mw_multidata.specs.Digest.{digest_of}
use Rattle.mw_offline.specs.Driving.{run_of}
use Rattle.mw_offline.specs.FilesAround.{files_around}
use Rattle.mw_causes.specs.declared.drive_cause.DriveCause.TheVariants.{SeedFile}
use Rattle.mw_offline.proofs.Driving.{AreUnmoved, journal_since, leaves_since, read_keeps, rose_since, run_exit, run_fault, runs_since, seed_exit, short_since, unmoved_all, unmoved_leaves}
use Rattle.mw_causes.proofs.Endings.{fault_exit}
use Rattle.mw_offline.proofs.drive_command.drive.Goals as goal

pub returns-in_err-seed-clause-stopped : goal.returns-in_err-seed-clause-stopped
returns-in_err-seed-clause-stopped g c =
    let F = g.F.Folder in
    let first = c.args.folder.now in
    let second = c.read_seed_bytes.new.folder in
    let files = files_around F.holds F.images F.is_open F.may_fail F.faults first second in
    let read = c.in_err-seed.ensures in
    let unmoved : AreUnmoved files = record { each = λ n. record { told = read.same n; crash = read.crash n }; opened = read.opened } in
    seed_exit g.S.Source.left files c.args.words.now c.args.input.now (g.O.Sink.held c.args.out.now) c.from_residual.result _ read.err unmoved c.from_residual.ensures.1

pub returns-in_err-seed-clause-kept : goal.returns-in_err-seed-clause-kept
returns-in_err-seed-clause-kept g c =
    let F = g.F.Folder in
    let first = c.args.folder.now in
    let second = c.read_seed_bytes.new.folder in
    let files = files_around F.holds F.images F.is_open F.may_fail F.faults first second in
    let read = c.in_err-seed.ensures in
    let unmoved : AreUnmoved files = record { each = λ n. record { told = read.same n; crash = read.crash n }; opened = read.opened } in
    unmoved_all files unmoved c.args.words.now (g.O.Sink.held c.args.out.now)

pub returns-in_err-seed-clause-leaves : goal.returns-in_err-seed-clause-leaves
returns-in_err-seed-clause-leaves g c =
    let F = g.F.Folder in
    let first = c.args.folder.now in
    let second = c.read_seed_bytes.new.folder in
    let files = files_around F.holds F.images F.is_open F.may_fail F.faults first second in
    let read = c.in_err-seed.ensures in
    let unmoved : AreUnmoved files = record { each = λ n. record { told = read.same n; crash = read.crash n }; opened = read.opened } in
    unmoved_leaves files unmoved c.args.words.now.journal

pub returns-in_err-seed-clause-fault : goal.returns-in_err-seed-clause-fault
returns-in_err-seed-clause-fault g c = λ e. inl (c.in_err-seed.ensures.fault (ap Err (fault_exit SeedFile c.from_residual.result _ c.from_residual.ensures.1 e)))

pub returns-in_err-drive_room-clause-stopped : goal.returns-in_err-drive_room-clause-stopped
returns-in_err-drive_room-clause-stopped g c =
    let F = g.F.Folder in
    let first = c.args.folder.now in
    let second = c.read_seed_bytes.new.folder in
    let last = c.drive_room.new.folder in
    let named = c.args.words.now in
    let old = g.O.Sink.held c.args.out.now in
    let new = g.O.Sink.held c.drive_room.new.out in
    let from = c.args.input.now in
    let to = c.drive_room.new.input in
    let files = files_around F.holds F.images F.is_open F.may_fail F.faults first last in
    let bytes = c.in_ok-seed.seed.bytes in
    let seed = c.in_ok-seed.seed.multidata in
    let read = c.in_ok-seed.ensures in
    let r = c.from_residual-in_err-drive_room in
    run_exit g.S.Source.left files named bytes seed from to old new r.result _ read.ok.0 read.ok.1
    (short_since F.holds F.images F.is_open F.may_fail F.faults first second last read.same read.crash g.S.Source.left (run_of bytes seed from to old new) named.journal _ c.in_err-drive_room.ensures.short) r.ensures.1

pub returns-in_err-drive_room-clause-kept : goal.returns-in_err-drive_room-clause-kept
returns-in_err-drive_room-clause-kept g c =
    let F = g.F.Folder in
    let first = c.args.folder.now in
    let second = c.read_seed_bytes.new.folder in
    let last = c.drive_room.new.folder in
    let named = c.args.words.now in
    let old = g.O.Sink.held c.args.out.now in
    let new = g.O.Sink.held c.drive_room.new.out in
    let files = files_around F.holds F.images F.is_open F.may_fail F.faults first last in
    let bytes = c.in_ok-seed.seed.bytes in
    let seed = c.in_ok-seed.seed.multidata in
    let read = c.in_ok-seed.ensures in
    read_keeps (record { shown = c.shown_is_checked.ensures; tails = c.tails_of_the_last_view.ensures; shown_across = c.shown_is_checked_across.ensures; tails_across = c.tails_across.ensures })
    files named bytes seed old new read.ok.0 read.ok.1 (journal_since F.holds F.images F.is_open F.may_fail F.faults first second last read.same read.crash named.journal (digest_of bytes) seed old new c.in_err-drive_room.ensures.runs)

pub returns-in_err-drive_room-clause-leaves : goal.returns-in_err-drive_room-clause-leaves
returns-in_err-drive_room-clause-leaves g c =
    let F = g.F.Folder in
    let first = c.args.folder.now in
    let second = c.read_seed_bytes.new.folder in
    let last = c.drive_room.new.folder in
    let named = c.args.words.now in
    let read = c.in_ok-seed.ensures in
    leaves_since F.holds F.images F.is_open F.may_fail F.faults first second last read.same read.crash named.journal read.opened c.in_err-drive_room.ensures.leaves

pub returns-in_err-drive_room-clause-fault : goal.returns-in_err-drive_room-clause-fault
returns-in_err-drive_room-clause-fault g c =
    let r = c.from_residual-in_err-drive_room in
    λ e. rose_since (g.F.Folder.faults c.args.folder.now) (g.F.Folder.faults c.read_seed_bytes.new.folder) (g.F.Folder.faults c.drive_room.new.folder) c.in_ok-seed.ensures.later
    (c.in_err-drive_room.ensures.fault (ap Err (run_fault r.result _ r.ensures.1 e)))

pub returns-clause-done : goal.returns-clause-done
returns-clause-done g c =
    let F = g.F.Folder in
    let first = c.args.folder.now in
    let second = c.read_seed_bytes.new.folder in
    let last = c.drive_room.new.folder in
    let named = c.args.words.now in
    let old = g.O.Sink.held c.args.out.now in
    let new = g.O.Sink.held c.drive_room.new.out in
    let from = c.args.input.now in
    let to = c.drive_room.new.input in
    let bytes = c.in_ok-seed.seed.bytes in
    let seed = c.in_ok-seed.seed.multidata in
    let read = c.in_ok-seed.ensures in
    record {
      bytes = bytes;
      seed = seed;
      seed_was = record { is_file = read.ok.0; is = read.ok.1 };
      runs = runs_since F.holds F.images F.is_open F.may_fail F.faults first second last read.same read.crash g.S.Source.left (run_of bytes seed from to old new) named.journal c.in_ok-drive_room.ensures.done;
    }

pub returns-clause-kept : goal.returns-clause-kept
returns-clause-kept g c =
    let F = g.F.Folder in
    let first = c.args.folder.now in
    let second = c.read_seed_bytes.new.folder in
    let last = c.drive_room.new.folder in
    let named = c.args.words.now in
    let old = g.O.Sink.held c.args.out.now in
    let new = g.O.Sink.held c.drive_room.new.out in
    let files = files_around F.holds F.images F.is_open F.may_fail F.faults first last in
    let bytes = c.in_ok-seed.seed.bytes in
    let seed = c.in_ok-seed.seed.multidata in
    let read = c.in_ok-seed.ensures in
    read_keeps (record { shown = c.shown_is_checked.ensures; tails = c.tails_of_the_last_view.ensures; shown_across = c.shown_is_checked_across.ensures; tails_across = c.tails_across.ensures })
    files named bytes seed old new read.ok.0 read.ok.1 (journal_since F.holds F.images F.is_open F.may_fail F.faults first second last read.same read.crash named.journal (digest_of bytes) seed old new c.in_ok-drive_room.ensures.runs)

pub returns-clause-leaves : goal.returns-clause-leaves
returns-clause-leaves g c =
    let F = g.F.Folder in
    let first = c.args.folder.now in
    let second = c.read_seed_bytes.new.folder in
    let last = c.drive_room.new.folder in
    let named = c.args.words.now in
    let read = c.in_ok-seed.ensures in
    leaves_since F.holds F.images F.is_open F.may_fail F.faults first second last read.same read.crash named.journal read.opened c.in_ok-drive_room.ensures.leaves
