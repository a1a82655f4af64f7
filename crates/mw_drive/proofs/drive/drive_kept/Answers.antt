use Rattle.std.proofs.Common.{map, inl, inr}
use Rattle.std.proofs.KnownBytes.{Keeps-refl}
use Rattle.mw_journal.proofs.Told.{on_ok_one}
use Rattle.mw_script.specs.Commands.{command_view}
use Rattle.mw_drive.proofs.Passing.{if_err_both}
use Rattle.mw_drive.proofs.drive.drive_kept.Goals as goal

pub returns-in-Ok-clause-done : goal.returns-in-Ok-clause-done
returns-in-Ok-clause-done g c = on_ok_one c.run_all.result.1 c.run_all.ensures.done (λ runs. (map command_view c.in-Ok.commands, c.in-Ok.ensures.ok, runs))

pub returns-in-Ok-clause-err : goal.returns-in-Ok-clause-err
returns-in-Ok-clause-err g c = if_err_both _ _ _ c.run_all.result.1 c.run_all.ensures.ran c.run_all.ensures.err
    (λ e ran halts. inr (map command_view c.in-Ok.commands, c.in-Ok.ensures.ok, ran, halts))

pub returns-in-Err-clause-err : goal.returns-in-Err-clause-err
returns-in-Err-clause-err g c = inl (c.in-Err.ensures.err, Keeps-refl (g.O.Sink.held c.args.out.now), c.into_disk.ensures)
