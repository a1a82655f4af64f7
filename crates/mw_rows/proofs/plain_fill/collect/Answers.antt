use Rattle.std.proofs.Common.{subst}
use Rattle.mw_multi.specs.Events.{events_of}
use Rattle.mw_multi.specs.Joint.{IsJoint}
use Rattle.mw_reach.proofs.Placing.{placed_for}
use Rattle.mw_rows.proofs.plain_fill.collect.Goals as goal

pub reach-requires-clause-placed : goal.reach-requires-clause-placed
reach-requires-clause-placed c =
    placed_for c.args.joint.now (subst IsJoint c.joint.view_is c.joint.invariant) (events_of c.args.joint.now) c.in_ok-placed.placed c.in_ok-placed.ensures.value
