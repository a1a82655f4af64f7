use Rattle.std.proofs.Common.{◌∙◌, length, take, subst, sym, rules}
use Rattle.mw_disk.specs.FileRuns.{Reads}
use Rattle.mw_disk.proofs.FileRuns.{reads_then, reads_some, reads_none}
use Rattle.mw_disk.proofs.file_runs.read_some.Goals as goal

pub returns-in-Ok-clause-reads : goal.returns-in-Ok-clause-reads
returns-in-Ok-clause-reads g c =
    let log = g.C.FileCalls.log in
    let further = reads_some (log c.loop.calls) c.args.at (length c.loop.into) (take c.in-Ok.count c.read_at.new.into) in
    subst (Reads (log c.args.calls.now)) (sym c.in-Ok.ensures.noted)
    (reads_then (log c.args.calls.now) (log c.loop.calls) _ c.loop.invariant.reads further)

pub returns-in-Err-2-clause-reads : goal.returns-in-Err-2-clause-reads
returns-in-Err-2-clause-reads g c =
    let log = g.C.FileCalls.log in
    subst (Reads (log c.args.calls.now)) (sym c.in-Err.ensures.noted)
    (reads_then (log c.args.calls.now) (log c.loop.calls) _ c.loop.invariant.reads
    (reads_none (log c.loop.calls) c.args.at (length c.loop.into)))

pub loop-preserved : goal.loop-preserved
loop-preserved g c =
    let log = g.C.FileCalls.log in
    record {
      honest = c.in-Err.ensures.honest ∙ c.loop.invariant.honest;
      reads = subst (Reads (log c.args.calls.now)) (sym c.in-Err.ensures.noted)
          (reads_then (log c.args.calls.now) (log c.loop.calls) _ c.loop.invariant.reads
          (reads_none (log c.loop.calls) c.args.at (length c.loop.into)));
      room = search rules;
    }
