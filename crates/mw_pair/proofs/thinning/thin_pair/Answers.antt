use Rattle.std.proofs.lemmas.Result.{IfErr-weaker, IfOk-weaker}
use Rattle.mw_checkpoint.specs.Checkpointing.{IsThinned, RefusesCheckpoint}
use Rattle.mw_pair.specs.Thinning.{AreThinned, RefusesThin}
use Rattle.mw_pair.proofs.Lifted.{lift_kept, lift_refused, lift_settles, lift_thinned, unopened_kept, unopened_settles}
use Rattle.mw_pair.proofs.thinning.thin_pair.Goals as goal

pub returns-in_err-files-clause-kept : goal.returns-in_err-files-clause-kept
returns-in_err-files-clause-kept g c =
    let F = g.F.Folder in
    let first = c.args.folder.now in
    let last = c.open_pair.new.folder in
    unopened_kept (F.holds first) (F.holds last) (F.images first) (F.images last) (F.is_open first) (F.is_open last) c.args.names.now c.args.digest.now c.in_err-files.ensures.unopened

pub returns-in_err-files-clause-settled : goal.returns-in_err-files-clause-settled
returns-in_err-files-clause-settled g c =
    let F = g.F.Folder in
    let first = c.args.folder.now in
    let last = c.open_pair.new.folder in
    unopened_settles (F.holds first) (F.holds last) (F.images first) (F.images last) (F.is_open first) (F.is_open last) c.args.names.now c.args.digest.now c.in_err-files.ensures.unopened

pub returns-clause-settled : goal.returns-clause-settled
returns-clause-settled g c =
    let F = g.F.Folder in let D = g.F.Drive.Disk in
    let first = c.args.folder.now in
    let last = c.close_pair.new.folder in
    lift_settles D.told D.may_leave D.faults (F.holds first) (F.images first) c.args.names.now c.args.digest.now c.in_ok-files.files c.in_ok-files.ensures.opened c.checkpoint-files.result.0 (F.holds last) (F.images last) (F.is_open last)
    c.close_pair.ensures.closed c.checkpoint-files.ensures.settled

pub returns-clause-thinned : goal.returns-clause-thinned
returns-clause-thinned g c =
    let F = g.F.Folder in let D = g.F.Drive.Disk in
    let first = c.args.folder.now in
    let last = c.close_pair.new.folder in
    let files = c.in_ok-files.files in
    let after = c.checkpoint-files.result.0 in
    IfOk-weaker c.checkpoint-files.result.1 (IsThinned D.told D.may_leave c.args.digest.now files after) (AreThinned (F.holds first) (F.images last) c.args.names.now c.args.digest.now)
    (λ kept t. lift_thinned D.told D.may_leave D.faults (F.holds first) (F.images first) c.args.names.now c.args.digest.now files c.in_ok-files.ensures.opened after (F.holds last) (F.images last) (F.is_open last) c.close_pair.ensures.closed kept t)
    c.checkpoint-files.ensures.done

pub returns-clause-kept : goal.returns-clause-kept
returns-clause-kept g c =
    let F = g.F.Folder in let D = g.F.Drive.Disk in
    let first = c.args.folder.now in
    let last = c.close_pair.new.folder in
    lift_kept D.told D.may_leave D.faults (F.holds first) (F.images first) c.args.names.now c.args.digest.now c.in_ok-files.files c.in_ok-files.ensures.opened c.checkpoint-files.result.0 (F.holds last) (F.images last) (F.is_open last)
    c.close_pair.ensures.closed c.checkpoint-files.ensures.kept

pub returns-clause-refused : goal.returns-clause-refused
returns-clause-refused g c =
    let F = g.F.Folder in let D = g.F.Drive.Disk in
    let first = c.args.folder.now in
    let files = c.in_ok-files.files in
    let after = c.checkpoint-files.result.0 in
    IfErr-weaker c.checkpoint-files.result.1 (RefusesCheckpoint D.told D.faults c.args.digest.now files after) (RefusesThin (F.holds first) c.args.names.now c.args.digest.now)
    (λ error r. lift_refused D.told D.may_leave D.faults (F.holds first) (F.images first) c.args.names.now c.args.digest.now files c.in_ok-files.ensures.opened after error r)
    c.checkpoint-files.ensures.refused
