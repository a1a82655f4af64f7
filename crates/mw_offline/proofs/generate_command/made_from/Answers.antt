use Rattle.std.proofs.Common.{◌≡◌, Ok, Err, ap}
use Rattle.mw_multi.specs.JointOf.{joint_of}
use Rattle.mw_causes.specs.Tables.{AreUnjoined}
use Rattle.mw_causes.specs.declared.generate_cause.GenerateCause.TheVariants.{Tables}
use Rattle.mw_causes.proofs.Endings.{fault_exit}
use Rattle.mw_offline.proofs.Generated.{unjoined_for}
use Rattle.mw_offline.proofs.generate_command.made_from.Goals as goal

pub returns-in_err-joint-clause-err : goal.returns-in_err-joint-clause-err
returns-in_err-joint-clause-err c =
    let t = c.args.tables.now in
    unjoined_for (λ joint. joint_of t.worlds t.players ≡ Ok joint) (AreUnjoined t.worlds t.players) c.args.words.now c.from_residual.result _ c.in_err-joint.ensures.err c.from_residual.ensures.1

pub returns-in_err-joint-clause-fault : goal.returns-in_err-joint-clause-fault
returns-in_err-joint-clause-fault c = λ e. c.in_err-joint.ensures.fault (ap Err (fault_exit Tables c.from_residual.result _ c.from_residual.ensures.1 e))
