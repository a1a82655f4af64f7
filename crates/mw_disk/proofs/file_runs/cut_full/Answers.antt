use Rattle.std.proofs.Common.{subst, sym}
use Rattle.mw_disk.specs.Crash.{CutShort}
use Rattle.mw_disk.specs.Laws.{uncut}
use Rattle.mw_disk.specs.FileRuns.{Reads}
use Rattle.mw_disk.proofs.FileRuns.{asked_runs, asked_cut, length_none, length_some}
use Rattle.mw_disk.proofs.file_runs.cut_full.Goals as goal

pub returns-in_err-length-clause-runs : goal.returns-in_err-length-clause-runs
returns-in_err-length-clause-runs g c honest =
    let log = g.C.FileCalls.log in
    asked_runs (CutShort c.args.len) (log c.args.calls.now) (log c.length.new.self) (uncut c.args.len)
    (subst (Reads (log c.args.calls.now)) (sym c.in_err-length.ensures.noted) (length_none (log c.args.calls.now)))

pub returns-in_err-set_length-clause-runs : goal.returns-in_err-set_length-clause-runs
returns-in_err-set_length-clause-runs g c honest =
    let log = g.C.FileCalls.log in
    asked_cut (log c.args.calls.now) (log c.length.new.self) (log c.set_length.new.self) c.args.len c.in_ok-length.field-0 _
    c.in_ok-length.ensures.noted c.set_length.ensures.noted c.if-branch-len.true honest

pub returns-in_ok-set_length-clause-runs : goal.returns-in_ok-set_length-clause-runs
returns-in_ok-set_length-clause-runs g c honest =
    let log = g.C.FileCalls.log in
    asked_cut (log c.args.calls.now) (log c.length.new.self) (log c.set_length.new.self) c.args.len c.in_ok-length.field-0 _
    c.in_ok-length.ensures.noted c.set_length.ensures.noted c.if-branch-len.true honest

pub returns-else-branch-len-clause-runs : goal.returns-else-branch-len-clause-runs
returns-else-branch-len-clause-runs g c honest =
    let log = g.C.FileCalls.log in
    asked_runs (CutShort c.args.len) (log c.args.calls.now) (log c.length.new.self) (uncut c.args.len)
    (subst (Reads (log c.args.calls.now)) (sym c.in_ok-length.ensures.noted) (length_some (log c.args.calls.now) c.in_ok-length.field-0))
