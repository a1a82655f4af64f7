use Rattle.std.proofs.Common.{◌≡◌, ◌++◌, take}
use Rattle.std.specs.Prelude.{flat_map}
use Rattle.mw_fill.specs.Copies.{entry_copies}
use Rattle.mw_fill.proofs.copies.push_slot.Given as goal

abbrev pub invariant-loop-entry : goal.invariant-loop-entry
invariant-loop-entry l = l.copies ≡ l.fn.copies ++ flat_map (entry_copies l.group l.many l.number l.slot) (take l.entry-index l.entry-items)
