use Rattle.std.proofs.Common.{◌≡◌, length}
use Rattle.mw_rows.proofs.plain_fill.add_pieces.Given as goal

abbrev pub invariant-loop-piece : goal.invariant-loop-piece
invariant-loop-piece l = length l.bag ≡ length l.initial.bag
