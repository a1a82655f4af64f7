use Rattle.std.proofs.Common.{◌≡◌, ◌++◌, None, slice_index_or, take}
use Rattle.mw_multi.specs.Numbered.{each_numbered}
use Rattle.mw_seeds.specs.SeedFile.{location_held}
use Rattle.mw_seeds.proofs.seed_locations.push_slot.Given as goal

abbrev pub invariant-loop-index : goal.invariant-loop-index
invariant-loop-index l = l.held.items ≡ l.fn.held.items ++ each_numbered (location_held l.joint (λ p. slice_index_or l.stands p None) l.finder l.slot) 0 (take l.index l.location-items)
