use Rattle.std.proofs.Common.{◌≡◌, take}
use Rattle.mw_reach.proofs.table.Table.of.Given as goal

abbrev pub invariant-loop-key : goal.invariant-loop-key
invariant-loop-key l = l.table ≡ take l.key l.notes
