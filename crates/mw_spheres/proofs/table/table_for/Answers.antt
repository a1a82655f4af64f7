use Rattle.std.proofs.Common.{subst}
use Rattle.mw_multi.specs.Joint.{IsJoint}
use Rattle.mw_multi.specs.Events.{with_events}
use Rattle.mw_reach.proofs.Placing.{placed_for}
use Rattle.mw_spheres.proofs.Hand.{table_is, few_numbers}
use Rattle.mw_spheres.proofs.table.table_for.Goals as goal

pub returns-clause-value : goal.returns-clause-value
returns-clause-value c = table_is c.args.joint.now (with_events c.args.joint.now c.args.placement.now) c.in_ok-table.table c.in_ok-table.ensures

pub returns-clause-fits : goal.returns-clause-fits
returns-clause-fits c = placed_for c.args.joint.now (subst IsJoint c.joint.view_is c.joint.invariant) (with_events c.args.joint.now c.args.placement.now) c.in_ok-table.table c.in_ok-table.ensures

pub returns-clause-few : goal.returns-clause-few
returns-clause-few c = few_numbers c.args.joint.now c.args.placement.now c.in_ok-table.table (subst IsJoint c.joint.view_is c.joint.invariant) c.requires c.in_ok-table.ensures
