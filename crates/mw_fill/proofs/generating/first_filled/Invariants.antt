use Rattle.mw_reach.specs.Reached.{IsMadeFor}
use Rattle.mw_fill.specs.Generated.{AreStuck}
use Rattle.mw_fill.proofs.generating.first_filled.Given as goal

abbrev pub invariant-loop-stream : goal.invariant-loop-stream
invariant-loop-stream g l = record {
  stuck : AreStuck l.joint l.seed l.stream;
  made : IsMadeFor l.joint l.reached;
}
