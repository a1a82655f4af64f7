use Rattle.std.proofs.Common.{◌≡◌, take}
use Rattle.std.specs.Prelude.{sum_by}
use Rattle.mw_multi.specs.WorldKept.{copies}
use Rattle.mw_fill.proofs.generating.copies_in.Given as goal

abbrev pub invariant-loop-entry : goal.invariant-loop-entry
invariant-loop-entry l = l.total ≡ sum_by copies (take l.entry-index l.entries)
