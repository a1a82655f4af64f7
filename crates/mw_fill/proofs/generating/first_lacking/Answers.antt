use Rattle.std.proofs.Common.{subst, ◌∙◌}
use Rattle.mw_rules.specs.Holds.{bag_of}
use Rattle.mw_multi.specs.Joint.{IsJoint}
use Rattle.mw_multi.specs.Steps.{steps_of}
use Rattle.mw_multi.specs.Bags.{everything}
use Rattle.mw_multi.specs.Events.{events_of}
use Rattle.mw_reach.specs.Reached.{counts_in, places_in}
use Rattle.mw_reach.proofs.Requiring.{lack_by_counts}
use Rattle.mw_reach.proofs.Placing.{placed_for}
use Rattle.mw_reach.proofs.SameLeast.{IsLeast-same}
use Rattle.mw_fill.proofs.generating.first_lacking.Goals as goal

pub reach_by-requires-clause-placed : goal.reach_by-requires-clause-placed
reach_by-requires-clause-placed g c =
    placed_for c.args.joint.now (subst IsJoint c.joint.view_is c.joint.invariant) (events_of c.args.joint.now) c.in_ok-placed.placed c.in_ok-placed.ensures.value

pub returns-clause-lack : goal.returns-clause-lack
returns-clause-lack g c =
    let joint = c.args.joint.now in
    let w = places_in c.reach_by.new.into in
    let bag = c.in_ok-everything.ensures in (
      c.in_ok-placed.placed,
      w,
      c.in_ok-placed.ensures.value,
      IsLeast-same (steps_of joint) (bag_of c.in_ok-everything.everything) (everything joint) c.in_ok-placed.placed w bag.counts c.reach_by.ensures.least,
      c.first_lack_by.ensures.lack ∙ lack_by_counts joint c.in_ok-everything.everything c.in_ok-placed.placed w (counts_in c.reach_by.new.into) (everything joint) bag.counts c.reach_by.ensures.counts,
    )
