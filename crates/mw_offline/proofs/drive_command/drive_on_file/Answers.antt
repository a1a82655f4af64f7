use Rattle.std.proofs.Common.{◌∙◌, Some, ℕ, List, ap, refl, sym, subst, inl, inr}
use Rattle.std.specs.Option.{is_some}
use Rattle.std.specs.Prelude.{OnOk, IfErr}
use Rattle.mw_edges.specs.Files.{open_file}
use Rattle.mw_edges.specs.Folders.{opened_bytes}
use Rattle.mw_journal.proofs.Told.{on_ok_one}
use Rattle.mw_multidata.specs.Digest.{digest_of}
use Rattle.mw_drive.specs.Ends.{IsAsRead}
use Rattle.mw_offline.specs.Driving.{JournalRead, JournalRuns, run_of, RunsToEnd, RunsShort}
use Rattle.mw_offline.specs.FilesAround.{files_around}
use Rattle.mw_offline.proofs.Driving.{accepted_over, drives_over, found_over, if_err_two, leaves_by, opened_same, same_both, some_for, stops_over, tells_closed, tells_made, unopened_runs, unopened_short}
use Rattle.mw_offline.proofs.drive_command.drive_on_file.Goals as goal

pub returns-in-Err-Failed-clause-short : goal.returns-in-Err-Failed-clause-short
returns-in-Err-Failed-clause-short g c =
    let F = g.F.Folder in
    unopened_short F.holds F.images F.is_open F.may_fail F.faults c.args.folder.now c.open_disk.new.self c.args.name.now (c.open_disk.ensures.crash c.args.name.now) g.S.Source.left
    c.args.seed.bytes c.args.seed.multidata c.args.input.now (g.O.Sink.held c.args.out.now) _ (inl refl)

pub returns-in-Err-Failed-clause-runs : goal.returns-in-Err-Failed-clause-runs
returns-in-Err-Failed-clause-runs g c =
    let F = g.F.Folder in
    unopened_runs F.holds F.images F.is_open F.may_fail F.faults c.args.folder.now c.open_disk.new.self c.args.name.now (c.open_disk.ensures.crash c.args.name.now)
    (digest_of c.args.seed.bytes) c.args.seed.multidata (g.O.Sink.held c.args.out.now)

pub returns-in-Err-Failed-clause-leaves : goal.returns-in-Err-Failed-clause-leaves
returns-in-Err-Failed-clause-leaves g c =
    let F = g.F.Folder in
    leaves_by F.holds F.images F.is_open F.may_fail F.faults c.args.folder.now c.open_disk.new.self c.args.name.now c.open_disk.ensures.others (λ n other. c.open_disk.ensures.crash n)
    c.in-Err-Failed.ensures.unopened c.open_disk.ensures.others_open (tells_made (F.holds c.args.folder.now c.args.name.now) (F.holds c.open_disk.new.self c.args.name.now) c.in-Err-Failed.ensures.kept)

pub returns-in-Err-Memory-clause-short : goal.returns-in-Err-Memory-clause-short
returns-in-Err-Memory-clause-short g c =
    let F = g.F.Folder in
    unopened_short F.holds F.images F.is_open F.may_fail F.faults c.args.folder.now c.open_disk.new.self c.args.name.now (c.open_disk.ensures.crash c.args.name.now) g.S.Source.left
    c.args.seed.bytes c.args.seed.multidata c.args.input.now (g.O.Sink.held c.args.out.now) _ (inr refl)

pub returns-in-Err-Memory-clause-runs : goal.returns-in-Err-Memory-clause-runs
returns-in-Err-Memory-clause-runs g c =
    let F = g.F.Folder in
    unopened_runs F.holds F.images F.is_open F.may_fail F.faults c.args.folder.now c.open_disk.new.self c.args.name.now (c.open_disk.ensures.crash c.args.name.now)
    (digest_of c.args.seed.bytes) c.args.seed.multidata (g.O.Sink.held c.args.out.now)

pub returns-in-Err-Memory-clause-leaves : goal.returns-in-Err-Memory-clause-leaves
returns-in-Err-Memory-clause-leaves g c =
    let F = g.F.Folder in
    leaves_by F.holds F.images F.is_open F.may_fail F.faults c.args.folder.now c.open_disk.new.self c.args.name.now c.open_disk.ensures.others (λ n other. c.open_disk.ensures.crash n)
    c.in-Err-Memory.ensures.unopened c.open_disk.ensures.others_open (tells_made (F.holds c.args.folder.now c.args.name.now) (F.holds c.open_disk.new.self c.args.name.now) c.in-Err-Memory.ensures.kept)

pub returns-clause-done : goal.returns-clause-done
returns-clause-done g c =
    let F = g.F.Folder in
    let first = c.args.folder.now in
    let last = c.close_disk.new.self in
    let name = c.args.name.now in
    let disk = c.in-Ok.disk in
    let after = c.drive_on-disk.result.0 in
    let file = c.as_slice.result.now in
    let seed = c.args.seed.multidata in
    let old = g.O.Sink.held c.args.out.now in
    let new = g.O.Sink.held c.drive_on-disk.new.out in
    let from = c.args.input.now in
    let to = c.drive_on-disk.new.input in
    let left = λ (x : List ℕ). (c.close_disk.ensures.left x).0 in
    subst (λ b. OnOk c.drive_on-disk.result.1 (RunsToEnd g.S.Source.left (files_around F.holds F.images F.is_open F.may_fail F.faults first last) (Some name) (run_of b seed from to old new)))
    c.as_slice.ensures
    (on_ok_one c.drive_on-disk.result.1 c.drive_on-disk.ensures.done
    (λ drives. drives_over (g.F.Drive.Disk.told disk) (opened_bytes (F.holds first name)) c.in-Ok.ensures.told (g.F.Drive.Disk.may_leave disk) (F.images first name) c.in-Ok.ensures.left
    (g.F.Drive.Disk.may_leave after) (F.images last name) left (digest_of file) seed old new (g.S.Source.left from) (g.S.Source.left to) drives))

pub returns-clause-short : goal.returns-clause-short
returns-clause-short g c =
    let F = g.F.Folder in
    let first = c.args.folder.now in
    let last = c.close_disk.new.self in
    let name = c.args.name.now in
    let disk = c.in-Ok.disk in
    let after = c.drive_on-disk.result.0 in
    let file = c.as_slice.result.now in
    let seed = c.args.seed.multidata in
    let old = g.O.Sink.held c.args.out.now in
    let new = g.O.Sink.held c.drive_on-disk.new.out in
    let from = c.args.input.now in
    let to = c.drive_on-disk.new.input in
    let left = λ (x : List ℕ). (c.close_disk.ensures.left x).0 in
    subst (λ b. IfErr c.drive_on-disk.result.1 (RunsShort g.S.Source.left (files_around F.holds F.images F.is_open F.may_fail F.faults first last) (Some name) (run_of b seed from to old new)))
    c.as_slice.ensures
    (if_err_two c.drive_on-disk.result.1 c.drive_on-disk.ensures.stopped c.drive_on-disk.ensures.accepted
    (λ e stops accepted. record {
      stops = stops_over (g.F.Drive.Disk.told disk) (opened_bytes (F.holds first name)) c.in-Ok.ensures.told (g.F.Drive.Disk.may_leave disk) (F.images first name) c.in-Ok.ensures.left
          (g.F.Drive.Disk.may_leave after) (F.images last name) left (digest_of file) seed old new e g.S.Source.left from to
          (IsAsRead (g.F.Drive.Disk.told disk) (g.F.Drive.Disk.told after) (g.F.Drive.Disk.may_leave disk) (g.F.Drive.Disk.may_leave after))
          (JournalRead (files_around F.holds F.images F.is_open F.may_fail F.faults first last) (Some name))
          (λ read. (
            opened_same (F.holds first name) (F.holds last name) (c.close_disk.ensures.told ∙ ap open_file (read.0 ∙ c.in-Ok.ensures.told)),
            λ x image. c.in-Ok.ensures.left x (read.1 x (left x image)),
          )) stops;
      accepted = accepted_over (g.F.Drive.Disk.told disk) (opened_bytes (F.holds first name)) c.in-Ok.ensures.told (g.F.Drive.Disk.may_leave disk) (F.images first name) c.in-Ok.ensures.left
          (g.F.Drive.Disk.may_leave after) (F.images last name) left (digest_of file) seed old new e accepted;
    }))

pub returns-clause-runs : goal.returns-clause-runs
returns-clause-runs g c =
    let F = g.F.Folder in
    let first = c.args.folder.now in
    let last = c.close_disk.new.self in
    let name = c.args.name.now in
    let disk = c.in-Ok.disk in
    let after = c.drive_on-disk.result.0 in
    let file = c.as_slice.result.now in
    let seed = c.args.seed.multidata in
    let old = g.O.Sink.held c.args.out.now in
    let new = g.O.Sink.held c.drive_on-disk.new.out in
    let left = λ (x : List ℕ). (c.close_disk.ensures.left x).0 in
    subst (λ b. JournalRuns (files_around F.holds F.images F.is_open F.may_fail F.faults first last) (Some name) (digest_of b) seed old new) c.as_slice.ensures
    (λ some. found_over (g.F.Drive.Disk.told disk) (opened_bytes (F.holds first name)) c.in-Ok.ensures.told (g.F.Drive.Disk.may_leave disk) (F.images first name) c.in-Ok.ensures.left
    (g.F.Drive.Disk.may_leave after) (F.images last name) left (digest_of file) seed old new
    (c.drive_on-disk.ensures.found (some_for (g.F.Drive.Disk.told disk) (opened_bytes (F.holds first name)) c.in-Ok.ensures.told (digest_of file) seed some)))

pub returns-clause-leaves : goal.returns-clause-leaves
returns-clause-leaves g c =
    let F = g.F.Folder in
    let first = c.args.folder.now in
    let middle = c.open_disk.new.self in
    let last = c.close_disk.new.self in
    let name = c.args.name.now in
    leaves_by F.holds F.images F.is_open F.may_fail F.faults first last name (λ n other. c.close_disk.ensures.others n other ∙ c.open_disk.ensures.others n other)
    (λ n other. same_both (F.images first n) (F.images middle n) (F.images last n) (c.open_disk.ensures.crash n) (c.close_disk.ensures.crash n other))
    (c.close_disk.ensures.closed ∙ sym c.in-Ok.ensures.one) (λ n other. c.close_disk.ensures.others_open n other ∙ c.open_disk.ensures.others_open n other)
    (tells_closed (g.F.Drive.Disk.told c.drive_on-disk.result.0) (F.holds last name) c.close_disk.ensures.told ∙ c.drive_on-disk.ensures.tells ∙ ap is_some c.in-Ok.ensures.told)
