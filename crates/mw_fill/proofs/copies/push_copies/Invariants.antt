use Rattle.std.proofs.Common.{◌≡◌, ◌++◌, replicate}
use Rattle.mw_fill.proofs.copies.push_copies.Given as goal

abbrev pub invariant-loop : goal.invariant-loop
invariant-loop l = l.copies ≡ l.fn.copies ++ replicate l.counter l.copy
