use Rattle.std.proofs.Common.{◌≡◌, ◌++◌, true, replicate}
use Rattle.mw_multi.proofs.events.push_regions.Given as goal

abbrev pub invariant-loop : goal.invariant-loop
invariant-loop l = l.flags.items ≡ l.fn.flags.items ++ replicate l.counter true
