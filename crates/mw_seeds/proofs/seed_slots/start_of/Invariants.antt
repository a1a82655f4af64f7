use Rattle.std.proofs.Common.{◌≡◌, flat_map, take}
use Rattle.mw_seeds.specs.SeedFile.{start_copies}
use Rattle.mw_seeds.proofs.seed_slots.start_of.Given as goal

abbrev pub invariant-loop-entry : goal.invariant-loop-entry
invariant-loop-entry l = l.start ≡ flat_map (start_copies l.slot.world.items) (take l.entry-index l.entry-items)
