use Rattle.std.proofs.Common.{◌≡◌, take}
use Rattle.mw_seeds.proofs.seed_groups.same_members.Given as goal

-- the numbers so far are the same
abbrev pub invariant-loop-index : goal.invariant-loop-index
invariant-loop-index l = take l.index l.a ≡ take l.index l.b
