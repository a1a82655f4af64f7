use Rattle.std.proofs.Common.{◌≡◌, take}
use Rattle.mw_multi.specs.Links.{pool_rows}
use Rattle.mw_multi.proofs.left.Left.of_pools.Given as goal

abbrev pub invariant-loop-slot : goal.invariant-loop-slot
invariant-loop-slot l = l.rows.items ≡ pool_rows (take l.slot-index l.slots)
