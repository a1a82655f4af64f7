use Rattle.std.proofs.Common.{◌∙◌, Bool, ◌&&◌, take, ap, sym}
use Rattle.mw_disk.specs.FileLogs.{FileState, judged_log, state_of}
use Rattle.mw_disk.proofs.RecordedFiles.{judged_more}
use Rattle.mw_disk.proofs.recorded_file.is_honest_record.Goals as goal

pub loop-event-preserved : goal.loop-event-preserved
loop-event-preserved c =
    let events = c.args.events.now in
    let s = state_of (judged_log c.args.found.now c.args.fresh (take c.loop-event.event-index events)) in
    let both = c.in_ok-fine.ensures s (sym c.loop-event.invariant.bytes) in
    let next = judged_more c.args.found.now c.args.fresh events c.loop-event.event-index c.event-item.result c.loop-event-test.true c.event-item.is in
    record {
      bytes = sym (ap (λ (t : FileState). t.bytes) next ∙ both.0);
      honest = ap (λ (h : Bool). h && c.in_ok-fine.fine) c.loop-event.invariant.honest
          ∙ sym (ap (λ (t : FileState). t.honest) next ∙ both.1);
    }
