use Rattle.std.proofs.Common.{◌≡◌, take}
use Rattle.mw_multi.specs.Numbered.{each_numbered}
use Rattle.mw_seeds.specs.Keys.{slot_keys}
use Rattle.mw_seeds.proofs.keys.table_order.Given as goal

abbrev pub invariant-loop-index : goal.invariant-loop-index
invariant-loop-index l = l.keys.items ≡ each_numbered slot_keys 1 (take l.index l.slot-items)
