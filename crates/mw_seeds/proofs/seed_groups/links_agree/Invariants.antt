use Rattle.std.proofs.Common.{◌≡◌, map, take}
use Rattle.mw_seeds.specs.Agreeing.{link_members, group_members}
use Rattle.mw_seeds.proofs.seed_groups.links_agree.Given as goal

-- the groups so far have the members of the links so far
abbrev pub invariant-loop-index : goal.invariant-loop-index
invariant-loop-index l = map group_members (take l.index l.groups) ≡ map link_members (take l.index l.links)
