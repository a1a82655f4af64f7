use Rattle.std.proofs.Common.{◌≡◌, ◌++◌, take}
use Rattle.mw_multi.specs.Numbered.{each_numbered}
use Rattle.mw_fill.specs.Openings.{opening_at}
use Rattle.mw_fill.proofs.openings.push_slot.Given as goal

abbrev pub invariant-loop-index : goal.invariant-loop-index
invariant-loop-index l = l.openings ≡ l.fn.openings ++ each_numbered (opening_at l.number l.slot) 0 (take l.index l.location-items)
