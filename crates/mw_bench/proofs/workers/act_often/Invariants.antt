use Rattle.std.proofs.Common.{◌≡◌}
use Rattle.mw_bench.proofs.workers.act_often.Given as goal

abbrev pub invariant-loop : goal.invariant-loop
invariant-loop g l = l.pass.lock ≡ l.initial.pass.lock
