use Rattle.mw_offline.proofs.Driving.{if_err_two, same_folder, unmoved_leaves}
use Rattle.mw_offline.specs.FilesAround.{files_around}
use Rattle.mw_offline.proofs.drive_command.drive_room.Goals as goal

pub returns-in-None-clause-done : goal.returns-in-None-clause-done
returns-in-None-clause-done g c = rw c.in-None.is c.drive_in_memory.ensures.done

pub returns-in-None-clause-short : goal.returns-in-None-clause-short
returns-in-None-clause-short g c =
    rw c.in-None.is (if_err_two c.drive_in_memory.result c.drive_in_memory.ensures.stopped c.drive_in_memory.ensures.accepted (λ e s a. record { stops = s; accepted = λ steps some left. a }))

pub returns-in-None-clause-runs : goal.returns-in-None-clause-runs
returns-in-None-clause-runs g c = rw c.in-None.is c.drive_in_memory.ensures.runs

pub returns-in-None-clause-leaves : goal.returns-in-None-clause-leaves
returns-in-None-clause-leaves g c =
    let F = g.F.Folder in
    unmoved_leaves (files_around F.holds F.images F.is_open F.may_fail F.faults c.args.folder.now c.args.folder.now) (same_folder F.holds F.images F.is_open F.may_fail F.faults c.args.folder.now) c.args.journal.now

pub returns-in-Some-clause-done : goal.returns-in-Some-clause-done
returns-in-Some-clause-done g c = rw c.in-Some.is c.drive_on_file.ensures.done

pub returns-in-Some-clause-short : goal.returns-in-Some-clause-short
returns-in-Some-clause-short g c = rw c.in-Some.is c.drive_on_file.ensures.short

pub returns-in-Some-clause-runs : goal.returns-in-Some-clause-runs
returns-in-Some-clause-runs g c = rw c.in-Some.is c.drive_on_file.ensures.runs

pub returns-in-Some-clause-leaves : goal.returns-in-Some-clause-leaves
returns-in-Some-clause-leaves g c = rw c.in-Some.is c.drive_on_file.ensures.leaves
