use Rattle.std.proofs.Common.{◌≡◌, ◌++◌, drop}
use Rattle.mw_stress.specs.Lines.{received}
use Rattle.mw_stress.proofs.lines.items_of.Given as goal

-- those so far and those of the rest are all
abbrev pub invariant-loop-each : goal.invariant-loop-each
invariant-loop-each l = l.items ++ received (drop l.each-index l.taken) l.slot ≡ received l.taken l.slot
