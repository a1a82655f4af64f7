use Rattle.std.proofs.Common.{◌+◌, ◌++◌, [], length}
use Rattle.mw_rules.specs.Holds.{bag_of}
use Rattle.mw_reach.specs.Counts.{missing}
use Rattle.mw_reach.specs.Reached.{IsBagFor, IsMadeFor, HasLeast, KeepsRules}
use Rattle.mw_spheres.specs.Spheres.{IsSphere, listed}
use Rattle.mw_spheres.specs.Gathering.{BagFits, IsInHand}
use Rattle.mw_spheres.proofs.Hand.{LeadsOn}
use Rattle.mw_spheres.proofs.sphere.spheres_from.Given as goal

-- the spheres so far, and the next one
abbrev pub invariant-loop-alloc : goal.invariant-loop-alloc
invariant-loop-alloc l = record {
  reached : IsMadeFor l.joint l.reached;
  rules : KeepsRules l.joint l.reached;
  bag : IsBagFor l.joint l.bag;
  least : HasLeast l.joint (bag_of l.bag) [] l.reached;
  room : BagFits l.table l.taken l.bag;
  hand : IsInHand l.joint l.table (listed l.spheres ++ l.sphere) l.taken l.bag;
  next : IsSphere l.joint l.table (listed l.spheres) l.sphere;
  before : LeadsOn l.joint l.table l.spheres;
}

abbrev pub decreases-loop-alloc : goal.decreases-loop-alloc
decreases-loop-alloc l = missing l.taken + length l.sphere
