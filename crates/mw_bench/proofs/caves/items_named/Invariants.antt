use Rattle.std.proofs.Common.{◌≡◌, take}
use Rattle.mw_bench.proofs.caves.items_named.Given as goal

-- the numbers so far
abbrev pub invariant-loop-number : goal.invariant-loop-number
invariant-loop-number l = l.items ≡ take l.number-index l.numbers
