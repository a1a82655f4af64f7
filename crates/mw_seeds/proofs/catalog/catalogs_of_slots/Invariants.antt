use Rattle.std.proofs.Common.{◌≡◌, map, take}
use Rattle.mw_seeds.specs.Agreeing.{slot_items}
use Rattle.mw_seeds.proofs.catalog.catalogs_of_slots.Given as goal

abbrev pub invariant-loop-slot : goal.invariant-loop-slot
invariant-loop-slot l = l.catalogs ≡ map slot_items (take l.slot-index l.slots)
