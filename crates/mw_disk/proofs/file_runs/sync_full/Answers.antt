use Rattle.std.proofs.Common.{subst, sym}
use Rattle.mw_disk.specs.FileRuns.{Settles}
use Rattle.mw_disk.proofs.FileRuns.{settles_file, settles_folder, settles_then}
use Rattle.mw_disk.proofs.file_runs.sync_full.Goals as goal

pub returns-in_err-sync-clause-settles : goal.returns-in_err-sync-clause-settles
returns-in_err-sync-clause-settles g c =
    let log = g.C.FileCalls.log in
    subst (Settles (log c.args.calls.now)) (sym c.sync.ensures.noted) (settles_file (log c.args.calls.now) _)

pub returns-clause-settles : goal.returns-clause-settles
returns-clause-settles g c =
    let log = g.C.FileCalls.log in
    settles_then (log c.args.calls.now) (log c.sync.new.self) (log c.sync_folder.new.self)
    (subst (Settles (log c.args.calls.now)) (sym c.sync.ensures.noted) (settles_file (log c.args.calls.now) _))
    (subst (Settles (log c.sync.new.self)) (sym c.sync_folder.ensures.noted) (settles_folder (log c.sync.new.self) _))
