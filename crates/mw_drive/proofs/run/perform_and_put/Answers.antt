use Rattle.std.proofs.Common.{inl, subst}
use Rattle.std.specs.Io.KnownBytes.{Appends}
use Rattle.mw_edges.specs.Causes.{PutsFront}
use Rattle.std.specs.Prelude.{string_bytes}
use Rattle.mw_script.specs.Commands.{command_view}
use Rattle.mw_drive.proofs.Stepping.{cut_by_stop, fault_by_stop, step_by, cut_by_put}
use Rattle.mw_drive.proofs.run.perform_and_put.Goals as goal

pub returns-in-Err-clause-err : goal.returns-in-Err-clause-err
returns-in-Err-clause-err g c digest seed life keeps going =
    cut_by_stop g.D.Disk.may_leave g.D.Disk.faults digest seed life (command_view c.args.command) c.args.kept (g.O.Sink.held c.args.out.now) c.perform.new.kept c.into_disk.result c.in-Err.error c.into_disk.ensures
    (c.in-Err.ensures.err digest seed life keeps going) c.in-Err.ensures.own

pub returns-in-Err-clause-fault : goal.returns-in-Err-clause-fault
returns-in-Err-clause-fault g c e digest seed life keeps going =
    inl (fault_by_stop g.D.Disk.may_leave g.D.Disk.faults digest seed life (command_view c.args.command) c.args.kept c.perform.new.kept c.into_disk.result c.in-Err.error c.into_disk.ensures
    (c.in-Err.ensures.err digest seed life keeps going) e)

pub returns-in-Ok-put-clause-ok : goal.returns-in-Ok-put-clause-ok
returns-in-Ok-put-clause-ok g c digest seed life keeps going =
    step_by g.D.Disk.may_leave g.D.Disk.faults digest seed life (command_view c.args.command) c.args.kept (g.O.Sink.held c.args.out.now) (g.O.Sink.held c.put.new.out) (string_bytes c.in-Ok.text) c.perform.new.kept
    (c.in-Ok.ensures.ok digest seed life keeps going) (subst (Appends (g.O.Sink.held c.args.out.now) (g.O.Sink.held c.put.new.out)) c.as_str.ensures.value c.in-Ok-put.ensures.done)

pub returns-clause-err : goal.returns-clause-err
returns-clause-err g c digest seed life keeps going =
    cut_by_put g.D.Disk.may_leave g.D.Disk.faults digest seed life (command_view c.args.command) c.args.kept (g.O.Sink.held c.args.out.now) (g.O.Sink.held c.put.new.out) (string_bytes c.in-Ok.text) c.perform.new.kept
    (c.in-Ok.ensures.ok digest seed life keeps going) c.into_disk-in-Err-put.result c.in-Err-put.error c.into_disk-in-Err-put.ensures c.requires (subst (PutsFront (g.O.Sink.held c.args.out.now) (g.O.Sink.held c.put.new.out)) c.as_str.ensures.value c.in-Err-put.ensures.front) c.in-Err-put.ensures.own
