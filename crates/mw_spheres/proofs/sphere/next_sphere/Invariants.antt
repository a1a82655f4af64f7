use Rattle.std.proofs.Common.{◌≡◌, length, take}
use Rattle.mw_multi.specs.Joint.{place_total}
use Rattle.mw_reach.specs.Reached.{places_in}
use Rattle.mw_spheres.specs.Spots.{spots_from}
use Rattle.mw_spheres.specs.Gathering.{BagFits, Gathered}
use Rattle.mw_spheres.proofs.sphere.next_sphere.Given as goal

-- the slots so far
abbrev pub invariant-loop-before : goal.invariant-loop-before
invariant-loop-before l = record {
  room : BagFits l.table l.taken l.bag;
  size : length l.bag ≡ length l.fn.bag;
  gathered : Gathered l.joint.slots l.table (places_in l.reached) l.fn.taken l.fn.bag (spots_from 1 (take l.before l.joint.slots)) (place_total (take l.before l.joint.slots)) l.taken l.bag l.sphere;
}
