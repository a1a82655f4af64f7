use Rattle.std.proofs.Common.{◌≡◌, take}
use Rattle.mw_seeds.proofs.seed_groups.copy_members.Given as goal

abbrev pub invariant-loop-member : goal.invariant-loop-member
invariant-loop-member l = l.copy ≡ take l.member-index l.members
