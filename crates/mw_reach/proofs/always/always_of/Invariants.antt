use Rattle.std.proofs.Common.{◌≡◌, take}
use Rattle.std.specs.Prelude.{flat_map}
use Rattle.mw_reach.specs.Split.{slot_always}
use Rattle.mw_reach.proofs.always.always_of.Given as goal

abbrev pub invariant-loop-slot : goal.invariant-loop-slot
invariant-loop-slot l = l.free ≡ flat_map slot_always (take l.slot-index l.fn.joint.slots)
