use Rattle.mw_pair.proofs.Lifted.{choice_refused, none_unplayed, opened_room}
use Rattle.mw_pair.proofs.choosing.open_chosen.Goals as goal

pub returns-in-Ok-clause-opened : goal.returns-in-Ok-clause-opened
returns-in-Ok-clause-opened g c =
    let F = g.F.Folder in let D = g.F.Drive.Disk in
    let first = c.args.folder.now in
    opened_room D.told D.may_leave D.faults (F.holds first) (F.images first) c.args.names.now c.args.digest.now c.in_ok-files.files c.in_ok-files.ensures.opened c.in-Ok.room c.in-Ok.ensures.chooses

pub returns-in-Err-clause-unplayed : goal.returns-in-Err-clause-unplayed
returns-in-Err-clause-unplayed g c =
    let F = g.F.Folder in let D = g.F.Drive.Disk in
    let first = c.args.folder.now in
    let last = c.close_pair.new.folder in
    none_unplayed D.told D.may_leave D.faults (F.holds first) (F.holds last) (F.images first) (F.images last) (F.is_open first) (F.is_open last) c.args.names.now c.args.digest.now c.in_ok-files.files c.in-Err.files
    c.in_ok-files.ensures.opened c.in_ok-files.ensures.shut c.close_pair.ensures.closed c.in-Err.error c.in-Err.ensures.none

pub returns-in-Err-clause-refused : goal.returns-in-Err-clause-refused
returns-in-Err-clause-refused g c =
    let F = g.F.Folder in let D = g.F.Drive.Disk in
    let first = c.args.folder.now in
    choice_refused D.told D.may_leave D.faults (F.holds first) (F.images first) c.args.names.now c.args.digest.now c.in_ok-files.files c.in_ok-files.ensures.opened c.in-Err.files c.in-Err.error c.in-Err.ensures.none
