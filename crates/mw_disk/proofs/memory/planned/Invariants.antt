use Rattle.std.proofs.Common.{◌≡◌, drop}
use Rattle.mw_disk.specs.Calls.{planned_answer}
use Rattle.mw_disk.proofs.memory.planned.Given as goal

-- none of the plans so far is of this call
abbrev pub invariant-loop-plan : goal.invariant-loop-plan
invariant-loop-plan l = planned_answer l.failing l.number ≡ planned_answer (drop l.plan-index l.failing) l.number
