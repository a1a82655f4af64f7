use Rattle.std.proofs.Common.{◌≡◌, map, take}
use Rattle.mw_seeds.specs.SeedFile.{file_slot}
use Rattle.mw_seeds.proofs.seed_slots.slots_of.Given as goal

abbrev pub invariant-loop-slot : goal.invariant-loop-slot
invariant-loop-slot l = l.slots ≡ map file_slot (take l.slot-index l.slot-items)
