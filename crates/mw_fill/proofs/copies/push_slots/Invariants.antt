use Rattle.std.proofs.Common.{◌≡◌, ◌++◌, take}
use Rattle.mw_multi.specs.Numbered.{each_numbered}
use Rattle.mw_fill.specs.Copies.{slot_copies}
use Rattle.mw_fill.proofs.copies.push_slots.Given as goal

abbrev pub invariant-loop-index : goal.invariant-loop-index
invariant-loop-index l = l.copies ≡ l.fn.copies ++ each_numbered (slot_copies l.group l.many) 1 (take l.index l.slots)
