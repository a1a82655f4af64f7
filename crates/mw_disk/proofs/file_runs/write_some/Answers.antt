use Rattle.std.proofs.Common.{◌∙◌, length, Some, None, subst, sym, ap}
use Rattle.mw_disk.specs.Crash.{Torn}
use Rattle.mw_disk.specs.FileLogs.{FileLog, state_of}
use Rattle.mw_disk.specs.FileRuns.{Runs}
use Rattle.mw_disk.proofs.FileRuns.{runs_then, torn_then, writes}
use Rattle.mw_disk.proofs.file_runs.write_some.Goals as goal

pub returns-in-Ok-clause-runs : goal.returns-in-Ok-clause-runs
returns-in-Ok-clause-runs g c =
    let log = g.C.FileCalls.log in
    let step = Torn c.args.at (length c.args.bytes.now) in
    subst (Runs step (log c.args.calls.now)) (sym c.in-Ok.ensures.noted)
    (runs_then step (log c.args.calls.now) (log c.loop.calls) _ (torn_then c.args.at (length c.args.bytes.now)) c.loop.invariant.runs
    (writes (log c.loop.calls) c.args.at c.args.bytes.now (Some c.in-Ok.count)))

pub returns-in-Err-2-clause-runs : goal.returns-in-Err-2-clause-runs
returns-in-Err-2-clause-runs g c =
    let log = g.C.FileCalls.log in
    let step = Torn c.args.at (length c.args.bytes.now) in
    subst (Runs step (log c.args.calls.now)) (sym c.in-Err.ensures.noted)
    (runs_then step (log c.args.calls.now) (log c.loop.calls) _ (torn_then c.args.at (length c.args.bytes.now)) c.loop.invariant.runs
    (writes (log c.loop.calls) c.args.at c.args.bytes.now None))

pub loop-preserved : goal.loop-preserved
loop-preserved g c =
    let log = g.C.FileCalls.log in
    let step = Torn c.args.at (length c.args.bytes.now) in
    record {
      honest = c.in-Err.ensures.honest ∙ c.loop.invariant.honest;
      runs = subst (Runs step (log c.args.calls.now)) (sym c.in-Err.ensures.noted)
          (runs_then step (log c.args.calls.now) (log c.loop.calls) _ (torn_then c.args.at (length c.args.bytes.now)) c.loop.invariant.runs
          (writes (log c.loop.calls) c.args.at c.args.bytes.now None));
      bytes = ap (λ (l : FileLog). (state_of l).bytes) c.in-Err.ensures.noted ∙ c.loop.invariant.bytes;
    }
