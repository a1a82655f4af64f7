use Rattle.std.proofs.Common.{◌≡◌, Ok, Err, ap}
use Rattle.std.proofs.lemmas.Result.{IfErr-weaker}
use Rattle.mw_multi.specs.JointOf.{joint_of}
use Rattle.mw_causes.specs.Tables.{AreUnjoined}
use Rattle.mw_offline.specs.Checking.{IsUntextFor, HasCheckCause}
use Rattle.mw_causes.specs.declared.check_cause.CheckCause.TheVariants.{Tables}
use Rattle.mw_causes.proofs.Endings.{fault_exit}
use Rattle.mw_offline.proofs.Checked.{table_cause, check_cause}
use Rattle.mw_offline.proofs.check_command.prepare.Goals as goal

pub returns-in_err-tables-clause-err : goal.returns-in_err-tables-clause-err
returns-in_err-tables-clause-err g c =
    table_cause (g.F.Folder.holds c.args.folder.now) (g.F.Folder.may_fail c.args.folder.now) c.args.words.now c.from_residual.result _ c.in_err-tables.ensures.err c.from_residual.ensures.1

pub returns-in_err-tables-clause-fault : goal.returns-in_err-tables-clause-fault
returns-in_err-tables-clause-fault g c = λ e. c.in_err-tables.ensures.fault (ap Err (fault_exit Tables c.from_residual.result _ c.from_residual.ensures.1 e))

pub returns-clause-err : goal.returns-clause-err
returns-clause-err g c =
    let holds = g.F.Folder.holds in
    let before = g.F.Folder.may_fail c.args.folder.now in
    let later = g.F.Folder.may_fail c.read_tables.new.folder in
    let asked = c.args.words.now in
    let t = c.in_ok-tables.tables in
    let read = c.in_ok-tables.ensures in
    IfErr-weaker c.text_for.result
    (IsUntextFor (λ joint. joint_of t.worlds t.players ≡ Ok joint) (AreUnjoined t.worlds t.players) (holds c.read_tables.new.folder asked.multidata) later)
    (HasCheckCause (holds c.args.folder.now) before asked)
    (check_cause (holds c.args.folder.now) asked t.players t.worlds read.ok later before read.sound (holds c.read_tables.new.folder asked.multidata) (read.same asked.multidata))
    c.text_for.ensures.err
