use Rattle.std.proofs.Common.{◌≡◌, ◌++◌, take}
use Rattle.std.specs.Prelude.{flat_map}
use Rattle.mw_multi.specs.Placement.{owner_numbers}
use Rattle.mw_multi.proofs.receivers.push_each.Given as goal

abbrev pub invariant-loop-owner : goal.invariant-loop-owner
invariant-loop-owner l = l.numbers ≡ l.fn.numbers ++ flat_map (owner_numbers l.joint.slots l.item) (take l.owner-index l.owners)
