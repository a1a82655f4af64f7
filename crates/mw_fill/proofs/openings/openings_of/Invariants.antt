use Rattle.std.proofs.Common.{◌≡◌, take}
use Rattle.mw_multi.specs.Numbered.{each_numbered}
use Rattle.mw_fill.specs.Openings.{slot_openings}
use Rattle.mw_fill.proofs.openings.openings_of.Given as goal

abbrev pub invariant-loop-index : goal.invariant-loop-index
invariant-loop-index l = l.openings ≡ each_numbered slot_openings 1 (take l.index l.slot-items)
