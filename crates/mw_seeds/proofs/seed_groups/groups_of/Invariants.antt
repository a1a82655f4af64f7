use Rattle.std.proofs.Common.{◌≡◌, map, take}
use Rattle.mw_seeds.specs.SeedFile.{file_group}
use Rattle.mw_seeds.proofs.seed_groups.groups_of.Given as goal

abbrev pub invariant-loop-link : goal.invariant-loop-link
invariant-loop-link l = l.groups ≡ map (file_group l.slots) (take l.link-index l.link-items)
