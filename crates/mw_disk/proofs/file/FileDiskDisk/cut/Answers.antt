use Rattle.mw_disk.specs.Crash.{CutShort}
use Rattle.mw_disk.specs.Laws.{uncut}
use Rattle.mw_disk.proofs.FileRuns.{disk_runs, disk_still}
use Rattle.mw_disk.proofs.file.FileDiskDisk.cut.Goals as goal

pub returns-then-self-clause-crash : goal.returns-then-self-clause-crash
returns-then-self-clause-crash g c =
    let calls = c.args.self.now.calls in
    disk_still (CutShort c.args.len) (g.C.FileCalls.is_honest calls) (g.C.FileCalls.log calls) (uncut c.args.len)

pub returns-clause-crash : goal.returns-clause-crash
returns-clause-crash g c =
    let calls = c.args.self.now.calls in
    let new = c.cut_full-done.new.calls in
    disk_runs (CutShort c.args.len) (g.C.FileCalls.is_honest calls) (g.C.FileCalls.is_honest new) (g.C.FileCalls.log calls) (g.C.FileCalls.log new)
    c.cut_full-done.ensures.honest (g.met.C.FileCalls.answers_honestly new) c.cut_full-done.ensures.runs
