use Rattle.std.proofs.Common.{◌≡◌, length}
use Rattle.mw_rows.proofs.plain_fill.add_reached.Given as goal

abbrev pub invariant-loop-opening : goal.invariant-loop-opening
invariant-loop-opening l = length l.bag ≡ length l.initial.bag
