use Rattle.std.proofs.Common.{inl, string_bytes, subst}
use Rattle.mw_edges.specs.Causes.{PutsFront}
use Rattle.mw_edges.specs.Folders.{IsWritten}
use Rattle.mw_causes.specs.Ends.{told_by}
use Rattle.mw_causes.specs.Wrote.{wrote_by, Untouched, HasFailed}
use Rattle.mw_causes.proofs.Endings.{left_late}
use Rattle.mw_clock.specs.Words.{SeedWords}
use Rattle.mw_clock.specs.Seeds.{IsSeedless, WritesSomeSeed}
use Rattle.mw_clock.proofs.seed.write_and_print.Goals as goal

pub returns-clause-left : goal.returns-clause-left
returns-clause-left g c =
    let a = c.args in
    let holds = g.F.Folder.holds in
    let wanted : SeedWords = record { gears = a.gears; seed = a.seed; out_name = a.out_name.now } in
    let wrote = wrote_by holds g.F.Folder.may_fail g.F.Folder.refusals a.folder.now c.put_file.new.folder in
    let old = g.O.Sink.held a.out.now in
    let new = g.O.Sink.held c.put_text.new.out in
    let made = c.in_ok-made.made in
    let written = subst (IsWritten (holds a.folder.now a.out_name.now) (holds c.put_file.new.folder a.out_name.now)) c.as_slice.ensures c.in_ok-put_file.ensures.done in
    left_late (IsSeedless a.gears a.seed) (Untouched wrote old new) (WritesSomeSeed wrote wanted old new) (HasFailed wrote (told_by g.O.Sink.held g.O.Sink.faults a.out.now c.put_text.new.out)) c.put_text.result c.put_text.ensures.late c.put_text.ensures.front
    (λ e. inl (c.put_text.ensures.fault e))
    (λ front. record {
      bytes = made.bytes;
      text = string_bytes made.text;
      made = c.in_ok-made.ensures.ok;
      others = c.in_ok-put_file.ensures.others;
      left = inl (written, subst (PutsFront old new) c.as_str.ensures.value front);
    })
