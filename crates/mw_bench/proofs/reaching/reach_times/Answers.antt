use Rattle.std.proofs.Common.{subst}
use Rattle.mw_multi.specs.Joint.{IsJoint}
use Rattle.mw_multi.specs.Events.{with_events}
use Rattle.mw_reach.proofs.Placing.{placed_for}
use Rattle.mw_bench.proofs.reaching.reach_times.Goals as goal

pub reach_often-requires-clause-placed : goal.reach_often-requires-clause-placed
reach_often-requires-clause-placed g c =
    placed_for c.args.joint.now (subst IsJoint c.joint.view_is c.joint.invariant) (with_events c.args.joint.now c.in_ok-seed.seed.placement) c.in_ok-placed.placed c.in_ok-placed.ensures
