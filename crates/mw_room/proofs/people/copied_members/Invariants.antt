use Rattle.std.proofs.Common.{◌≡◌, ◌++◌, drop}
use Rattle.mw_room.proofs.people.copied_members.Given as goal

abbrev pub invariant-loop-member : goal.invariant-loop-member
invariant-loop-member l = l.copies ++ drop l.member-index l.members ≡ l.members
