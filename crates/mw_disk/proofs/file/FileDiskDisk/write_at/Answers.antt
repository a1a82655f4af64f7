use Rattle.std.proofs.Common.{length}
use Rattle.mw_disk.specs.Crash.{Torn}
use Rattle.mw_disk.proofs.FileRuns.{disk_runs}
use Rattle.mw_disk.proofs.file.FileDiskDisk.write_at.Goals as goal

pub returns-clause-crash : goal.returns-clause-crash
returns-clause-crash g c =
    let calls = c.args.self.now.calls in
    let new = c.write_full-done.new.calls in
    disk_runs (Torn c.args.at (length c.args.bytes.now)) (g.C.FileCalls.is_honest calls) (g.C.FileCalls.is_honest new) (g.C.FileCalls.log calls) (g.C.FileCalls.log new)
    c.write_full-done.ensures.honest (g.met.C.FileCalls.answers_honestly new) c.write_full-done.ensures.runs
