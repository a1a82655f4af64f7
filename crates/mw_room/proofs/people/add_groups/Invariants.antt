use Rattle.std.proofs.Common.{◌≡◌, ◌+◌, ◌++◌, drop}
use Rattle.mw_protocol.specs.Players.{group_infos}
use Rattle.mw_room.proofs.people.add_groups.Given as goal

abbrev pub invariant-loop-before : goal.invariant-loop-before
invariant-loop-before l = l.found ++ group_infos (l.slots + l.before + 1) (drop l.before l.groups) ≡ l.initial.found ++ group_infos (l.slots + 1) l.groups
