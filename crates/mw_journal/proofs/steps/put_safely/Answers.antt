use Rattle.std.proofs.Common.{length}
use Rattle.mw_disk.specs.Crash.{IsTorn}
use Rattle.mw_disk.specs.Laws.{unwritten_torn}
use Rattle.mw_disk.proofs.Moments.{started, goes_on}
use Rattle.mw_journal.proofs.steps.put_safely.Goals as goal

pub returns-in_err-write_at-clause-any_moment : goal.returns-in_err-write_at-clause-any_moment
returns-in_err-write_at-clause-any_moment g c =
    let disk = c.args.disk.now in
    let P = IsTorn (g.D.Disk.may_leave disk) c.args.at (length c.args.bytes.now) in
    let at_start = started g.D.Disk.moment g.D.Disk.left_since disk P
    (λ f left. (f, g.met.D.Disk.only_now disk f left, unwritten_torn c.args.at (length c.args.bytes.now) f)) in
    goes_on g.D.Disk.moment g.D.Disk.left_since disk disk c.write_at.new.self P _ at_start c.write_at.ensures.time c.write_at.ensures.crash

pub returns-clause-any_moment : goal.returns-clause-any_moment
returns-clause-any_moment g c =
    let disk = c.args.disk.now in
    let P = IsTorn (g.D.Disk.may_leave disk) c.args.at (length c.args.bytes.now) in
    let at_start = started g.D.Disk.moment g.D.Disk.left_since disk P
    (λ f left. (f, g.met.D.Disk.only_now disk f left, unwritten_torn c.args.at (length c.args.bytes.now) f)) in
    let put = goes_on g.D.Disk.moment g.D.Disk.left_since disk disk c.write_at.new.self P _ at_start c.write_at.ensures.time c.write_at.ensures.crash in
    goes_on g.D.Disk.moment g.D.Disk.left_since disk c.write_at.new.self c.sync.new.self P _ put c.sync.ensures.time
    (λ f now. c.write_at.ensures.crash f (c.sync.ensures.crash f now))
