use Rattle.std.proofs.Common.{◌≡◌, length}
use Rattle.mw_rows.proofs.plain_fill.add_owned.Given as goal

-- the bag stays as large
abbrev pub invariant-loop-before : goal.invariant-loop-before
invariant-loop-before l = length l.bag ≡ length l.fn.bag
