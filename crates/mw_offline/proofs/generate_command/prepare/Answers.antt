use Rattle.std.proofs.Common.{Err, ap}
use Rattle.mw_causes.specs.declared.generate_cause.GenerateCause.TheVariants.{Tables}
use Rattle.mw_causes.proofs.Endings.{fault_exit}
use Rattle.mw_offline.proofs.Generated.{table_cause}
use Rattle.mw_offline.proofs.generate_command.prepare.Goals as goal

pub returns-in_err-tables-clause-err : goal.returns-in_err-tables-clause-err
returns-in_err-tables-clause-err g c =
    table_cause (g.F.Folder.holds c.args.folder.now) (g.F.Folder.may_fail c.args.folder.now) c.args.words.now c.from_residual.result _ c.in_err-tables.ensures.err c.from_residual.ensures.1

pub returns-in_err-tables-clause-fault : goal.returns-in_err-tables-clause-fault
returns-in_err-tables-clause-fault g c = λ e. c.in_err-tables.ensures.fault (ap Err (fault_exit Tables c.from_residual.result _ c.from_residual.ensures.1 e))
