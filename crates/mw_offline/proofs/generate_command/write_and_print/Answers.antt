use Rattle.std.proofs.Common.{◌∙◌, ℕ, List, Option, Err, ap, inl, inr, string_bytes, subst, arith}
use Rattle.std.proofs.KnownBytes.{Keeps-refl}
use Rattle.std.proofs.lemmas.Result.{on_ok_weaker}
use Rattle.std.specs.Io.KnownBytes.{Appends}
use Rattle.mw_edges.specs.Causes.{PutsFront, Rose}
use Rattle.mw_edges.specs.Folders.{IsWritten}
use Rattle.mw_causes.specs.Ends.{HasLeft, told_by}
use Rattle.mw_causes.specs.Wrote.{wrote_by, Untouched, HasFailed}
use Rattle.mw_offline.specs.Generating.{HasGenerateCause, WritesSome}
use Rattle.mw_causes.proofs.Endings.{passed_exit, fault_passed, left_exit, left_late, left_some}
use Rattle.mw_offline.proofs.generate_command.write_and_print.Goals as goal

pub returns-in_err-made-clause-left : goal.returns-in_err-made-clause-left
returns-in_err-made-clause-left g c =
    let holds = g.F.Folder.holds in
    let wanted = c.args.words.now in
    let wrote = wrote_by holds g.F.Folder.may_fail g.F.Folder.refusals c.args.folder.now c.prepare.new.folder in
    let held = g.O.Sink.held c.args.out.now in
    left_exit (HasGenerateCause (holds c.args.folder.now) (g.F.Folder.may_fail c.args.folder.now) wanted) (Untouched wrote held held) (WritesSome wrote wanted held held) (HasFailed wrote (told_by g.O.Sink.held g.O.Sink.faults c.args.out.now c.args.out.now)) c.from_residual.result _ c.in_err-made.ensures.err
    (record { files = c.in_err-made.ensures.same; put = Keeps-refl held }) c.from_residual.ensures.1

pub returns-in_err-put_file-clause-left : goal.returns-in_err-put_file-clause-left
returns-in_err-put_file-clause-left g c =
    let holds = g.F.Folder.holds in
    let wanted = c.args.words.now in
    let wrote = wrote_by holds g.F.Folder.may_fail g.F.Folder.refusals c.args.folder.now c.put_file.new.folder in
    let held = g.O.Sink.held c.args.out.now in
    let why = HasGenerateCause (holds c.args.folder.now) (g.F.Folder.may_fail c.args.folder.now) wanted in
    let failed = HasFailed wrote (told_by g.O.Sink.held g.O.Sink.faults c.args.out.now c.args.out.now) in
    let made = c.in_ok-made.made in
    let r = c.from_residual-in_err-put_file in
    let refused = subst (λ n. Rose n (g.F.Folder.refusals c.put_file.new.folder)) c.in_ok-made.ensures.unrefused c.in_err-put_file.ensures.refused in
    let some : WritesSome wrote wanted held held =
    record {
      bytes = made.bytes;
      text = string_bytes made.text;
      generated = c.in_ok-made.ensures.ok;
      others = λ n other. c.in_err-put_file.ensures.others n other ∙ c.in_ok-made.ensures.same n;
      left = inr (refused, Keeps-refl held);
    } in
    passed_exit (HasLeft why (Untouched wrote held held) (WritesSome wrote wanted held held) failed) r.result _
    (left_some why (Untouched wrote held held) (WritesSome wrote wanted held held) failed _ c.in_err-put_file.ensures.late some (λ _. inr refused)) r.ensures.1

pub returns-in_err-put_file-clause-fault : goal.returns-in_err-put_file-clause-fault
returns-in_err-put_file-clause-fault g c =
    let r = c.from_residual-in_err-put_file in
    λ e. inl (omega (arith, c.in_ok-made.ensures.later, c.in_err-put_file.ensures.fault (ap Err (fault_passed r.result _ r.ensures.1 e))))

pub returns-clause-left : goal.returns-clause-left
returns-clause-left g c =
    let holds = g.F.Folder.holds in
    let w = c.args.words.now in
    let wanted = w in
    let wrote = wrote_by holds g.F.Folder.may_fail g.F.Folder.refusals c.args.folder.now c.put_file.new.folder in
    let old = g.O.Sink.held c.args.out.now in
    let new = g.O.Sink.held c.put_text.new.out in
    let made = c.in_ok-made.made in
    let after = holds c.put_file.new.folder w.out_name in
    let written : IsWritten (holds c.args.folder.now w.out_name) after made.bytes =
    subst (λ (told : Option (Option (List ℕ))). IsWritten told after made.bytes) (c.in_ok-made.ensures.same w.out_name)
    (subst (IsWritten (holds c.prepare.new.folder w.out_name) after) c.as_slice.ensures c.in_ok-put_file.ensures.done) in
    left_late (HasGenerateCause (holds c.args.folder.now) (g.F.Folder.may_fail c.args.folder.now) wanted) (Untouched wrote old new) (WritesSome wrote wanted old new) (HasFailed wrote (told_by g.O.Sink.held g.O.Sink.faults c.args.out.now c.put_text.new.out)) c.put_text.result c.put_text.ensures.late c.put_text.ensures.front
    (λ e. inl (c.put_text.ensures.fault e))
    (λ front. record {
      bytes = made.bytes;
      text = string_bytes made.text;
      generated = c.in_ok-made.ensures.ok;
      others = λ n other. c.in_ok-put_file.ensures.others n other ∙ c.in_ok-made.ensures.same n;
      left = inl (written, subst (PutsFront old new) c.as_str.ensures.value front);
    })

pub returns-clause-done : goal.returns-clause-done
returns-clause-done g c =
    let holds = g.F.Folder.holds in
    let w = c.args.words.now in
    let old = g.O.Sink.held c.args.out.now in
    let new = g.O.Sink.held c.put_text.new.out in
    let made = c.in_ok-made.made in
    let after = holds c.put_file.new.folder w.out_name in
    let written : IsWritten (holds c.args.folder.now w.out_name) after made.bytes =
    subst (λ (told : Option (Option (List ℕ))). IsWritten told after made.bytes) (c.in_ok-made.ensures.same w.out_name)
    (subst (IsWritten (holds c.prepare.new.folder w.out_name) after) c.as_slice.ensures c.in_ok-put_file.ensures.done) in
    on_ok_weaker c.put_text.result
    (λ put. record {
      bytes = made.bytes;
      text = string_bytes made.text;
      generated = c.in_ok-made.ensures.ok;
      others = λ n other. c.in_ok-put_file.ensures.others n other ∙ c.in_ok-made.ensures.same n;
      written = written;
      put = subst (Appends old new) c.as_str.ensures.value put;
    }) c.put_text.ensures.done
