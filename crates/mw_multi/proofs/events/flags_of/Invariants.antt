use Rattle.std.proofs.Common.{◌≡◌, take}
use Rattle.mw_multi.specs.Events.{event_free}
use Rattle.mw_multi.proofs.events.flags_of.Given as goal

abbrev pub invariant-loop-slot : goal.invariant-loop-slot
invariant-loop-slot l = l.flags.items ≡ event_free (take l.slot-index l.joint.slots)
