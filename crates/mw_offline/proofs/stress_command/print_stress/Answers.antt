use Rattle.std.proofs.Common.{string_bytes, subst}
use Rattle.std.proofs.KnownBytes.{Keeps-refl}
use Rattle.std.proofs.lemmas.Result.{on_ok_weaker}
use Rattle.std.specs.Io.KnownBytes.{Appends, Keeps}
use Rattle.mw_edges.specs.Causes.{PutsFront, Rose}
use Rattle.mw_causes.proofs.Endings.{left_exit, left_late}
use Rattle.mw_offline.specs.Stressing.{HasStressCause, PutsFrontOfStress}
use Rattle.mw_offline.proofs.stress_command.print_stress.Goals as goal

pub returns-in_err-text-clause-left : goal.returns-in_err-text-clause-left
returns-in_err-text-clause-left g c =
    let held = g.O.Sink.held c.args.out.now in
    let faults = g.O.Sink.faults c.args.out.now in
    left_exit (HasStressCause c.args.words.now) (Keeps held held) (PutsFrontOfStress c.args.words.now held held) (Rose faults faults) c.from_residual.result _ c.in_err-text.ensures.err (Keeps-refl held) c.from_residual.ensures.1

pub returns-clause-left : goal.returns-clause-left
returns-clause-left g c =
    let old = g.O.Sink.held c.args.out.now in
    let new = g.O.Sink.held c.put_text.new.out in
    left_late (HasStressCause c.args.words.now) (Keeps old new) (PutsFrontOfStress c.args.words.now old new) (Rose (g.O.Sink.faults c.args.out.now) (g.O.Sink.faults c.put_text.new.out)) c.put_text.result c.put_text.ensures.late c.put_text.ensures.front c.put_text.ensures.fault
    (λ front. (string_bytes c.in_ok-text.text, c.in_ok-text.ensures.ok, subst (PutsFront old new) c.as_str.ensures.value front))

pub returns-clause-done : goal.returns-clause-done
returns-clause-done g c =
    let old = g.O.Sink.held c.args.out.now in
    let new = g.O.Sink.held c.put_text.new.out in
    on_ok_weaker c.put_text.result (λ put. (string_bytes c.in_ok-text.text, c.in_ok-text.ensures.ok, subst (Appends old new) c.as_str.ensures.value put)) c.put_text.ensures.done
