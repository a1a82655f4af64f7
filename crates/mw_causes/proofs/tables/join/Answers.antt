use Rattle.mw_causes.proofs.Endings.{fault_passed}
use Rattle.mw_causes.proofs.TableCauses.{joint_late}
use Rattle.mw_causes.proofs.tables.join.Goals as goal

pub returns-in_err-build-clause-fault : goal.returns-in_err-build-clause-fault
returns-in_err-build-clause-fault c = λ e. absurd (joint_late _ (fault_passed c.from_residual.result _ c.from_residual.ensures.1 e))
