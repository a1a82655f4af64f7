use Rattle.std.proofs.Common.{subst, sym}
use Rattle.mw_disk.specs.Crash.{Torn}
use Rattle.mw_disk.specs.Laws.{unwritten_torn}
use Rattle.mw_disk.specs.FileRuns.{Reads}
use Rattle.mw_disk.proofs.FileRuns.{asked_runs, asked_lengthen, length_none, length_some}
use Rattle.mw_disk.proofs.file_runs.reach.Goals as goal

pub returns-in_err-length-clause-runs : goal.returns-in_err-length-clause-runs
returns-in_err-length-clause-runs g c honest =
    let log = g.C.FileCalls.log in
    asked_runs (Torn c.args.at 0) (log c.args.calls.now) (log c.length.new.self) (unwritten_torn c.args.at 0)
    (subst (Reads (log c.args.calls.now)) (sym c.in_err-length.ensures.noted) (length_none (log c.args.calls.now)))

pub returns-in_err-set_length-clause-runs : goal.returns-in_err-set_length-clause-runs
returns-in_err-set_length-clause-runs g c honest =
    let log = g.C.FileCalls.log in
    asked_lengthen (log c.args.calls.now) (log c.length.new.self) (log c.set_length.new.self) c.args.at c.in_ok-length.field-0 _
    c.in_ok-length.ensures.noted c.set_length.ensures.noted c.if-branch-at.true honest

pub returns-in_ok-set_length-clause-runs : goal.returns-in_ok-set_length-clause-runs
returns-in_ok-set_length-clause-runs g c honest =
    let log = g.C.FileCalls.log in
    asked_lengthen (log c.args.calls.now) (log c.length.new.self) (log c.set_length.new.self) c.args.at c.in_ok-length.field-0 _
    c.in_ok-length.ensures.noted c.set_length.ensures.noted c.if-branch-at.true honest

pub returns-else-branch-at-clause-runs : goal.returns-else-branch-at-clause-runs
returns-else-branch-at-clause-runs g c honest =
    let log = g.C.FileCalls.log in
    asked_runs (Torn c.args.at 0) (log c.args.calls.now) (log c.length.new.self) (unwritten_torn c.args.at 0)
    (subst (Reads (log c.args.calls.now)) (sym c.in_ok-length.ensures.noted) (length_some (log c.args.calls.now) c.in_ok-length.field-0))
