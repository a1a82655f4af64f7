use Rattle.std.proofs.Common.{◌≡◌, [], false, replicate, arith}
use Rattle.std.proofs.lemmas.Grind.{common_steps}
use Rattle.mw_multi.specs.Joint.{place_total}
use Rattle.mw_reach.specs.Reached.{counts_in, flags_in}
use Rattle.mw_reach.proofs.Placing.{placed_for}
use Rattle.mw_spheres.proofs.Hand.{settled_without, first_room, first_hand}
use Rattle.mw_spheres.proofs.sphere.spheres_of.Goals as goal

pub spheres_from-requires-clause-room : goal.spheres_from-requires-clause-room
spheres_from-requires-clause-room c =
    let joint = c.args.joint.now in
    let none : c.as_mut_slice-taken.result.now ≡ replicate (place_total joint.slots) false = grind (arith, common_steps) in
    first_room joint c.args.table.now c.as_mut_slice-taken.result.now c.in_ok-bag.bag c.requires.joint c.requires.table c.requires.few none c.in_ok-bag.ensures

pub reach-requires-clause-placed : goal.reach-requires-clause-placed
reach-requires-clause-placed c = placed_for c.args.joint.now c.requires.joint [] c.in_ok-nothing.nothing c.in_ok-nothing.ensures.value

pub spheres_from-requires-clause-least : goal.spheres_from-requires-clause-least
spheres_from-requires-clause-least c =
    let into = c.reach.new.into in
    settled_without c.args.joint.now c.in_ok-bag.bag c.in_ok-nothing.nothing (flags_in into) (counts_in into) c.in_ok-nothing.ensures.value record { least = c.reach.ensures.least; tally = c.reach.ensures.counts }

pub spheres_from-requires-clause-hand : goal.spheres_from-requires-clause-hand
spheres_from-requires-clause-hand c =
    let joint = c.args.joint.now in
    let none : c.as_mut_slice-taken.result.now ≡ replicate (place_total joint.slots) false = grind (arith, common_steps) in
    first_hand joint c.args.table.now (place_total joint.slots) c.as_mut_slice-taken.result.now c.in_ok-bag.bag none c.in_ok-bag.ensures
