use Rattle.std.proofs.Common.{◌≡◌, ◌+◌, ◌++◌, drop}
use Rattle.mw_protocol.specs.Players.{slot_infos}
use Rattle.mw_room.proofs.people.add_slots.Given as goal

abbrev pub invariant-loop-before : goal.invariant-loop-before
invariant-loop-before l = l.found ++ slot_infos l.team (l.before + 1) (drop l.before l.slots) ≡ l.initial.found ++ slot_infos l.team 1 l.slots
