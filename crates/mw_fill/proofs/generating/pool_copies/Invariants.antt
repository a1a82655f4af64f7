use Rattle.std.proofs.Common.{◌≡◌, take}
use Rattle.std.specs.Prelude.{sum_by}
use Rattle.mw_fill.specs.Generated.{slot_pool_size}
use Rattle.mw_fill.proofs.generating.pool_copies.Given as goal

abbrev pub invariant-loop-slot : goal.invariant-loop-slot
invariant-loop-slot l = l.total ≡ sum_by slot_pool_size (take l.slot-index l.slot-items)
