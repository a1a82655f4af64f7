use Rattle.std.proofs.Common.{◌≡◌, None, slice_index_or, take}
use Rattle.mw_multi.specs.Numbered.{each_numbered}
use Rattle.mw_seeds.specs.SeedFile.{slot_held}
use Rattle.mw_seeds.proofs.seed_locations.table_order.Given as goal

abbrev pub invariant-loop-index : goal.invariant-loop-index
invariant-loop-index l = l.held.items ≡ each_numbered (slot_held l.joint (λ p. slice_index_or l.stands p None)) 1 (take l.index l.slot-items)
