use Rattle.mw_reach.specs.Reached.{IsMadeFor}
use Rattle.mw_bench.proofs.reaching.reach_often.Given as goal

abbrev pub invariant-loop : goal.invariant-loop
invariant-loop g l = IsMadeFor l.joint l.into
