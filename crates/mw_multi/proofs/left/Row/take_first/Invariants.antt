use Rattle.std.proofs.Common.{◌≡◌, ◌++◌, drop}
use Rattle.mw_multi.specs.Links.{first_copies}
use Rattle.mw_multi.proofs.left.Row.take_first.Given as goal

abbrev pub invariant-loop-entry : goal.invariant-loop-entry
invariant-loop-entry l = l.first ++ first_copies l.self (drop l.entry-index l.pool) ≡ first_copies l.fn.self l.pool
