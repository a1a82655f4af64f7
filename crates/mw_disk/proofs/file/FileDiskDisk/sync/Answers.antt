use Rattle.std.proofs.Common.{◌≡◌, false, rules}
use Rattle.mw_disk.specs.Crash.{OnlyTold}
use Rattle.mw_disk.specs.FileRuns.{Safe, told_if, LeavesIf}
use Rattle.mw_disk.proofs.FileRuns.{disk_safe, passed_on}
use Rattle.mw_disk.proofs.file.FileDiskDisk.sync.Goals as goal

pub returns-clause-safe : goal.returns-clause-safe
returns-clause-safe g c =
    let log = g.C.FileCalls.log in
    let calls = c.args.self.now.calls in
    let new = c.sync_full-done.new.calls in
    let honest = g.C.FileCalls.is_honest new in
    let kept : c.args.self.now.lost ≡ false = search rules in
    passed_on (Safe (log calls) (log new)) (OnlyTold (told_if honest (log new)) (LeavesIf honest (log new)))
    c.sync_full-done.result c.counted.result c.counted.ensures.ok c.sync_full-done.ensures.safe
    (λ safe. disk_safe honest (log calls) (log new) safe (c.args.self.now.sound kept))
