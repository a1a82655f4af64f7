use Rattle.std.proofs.Common.{◌≡◌, drop}
use Rattle.mw_multi.specs.Links.{taken_from_each}
use Rattle.mw_multi.proofs.left.Left.take_each.Given as goal

abbrev pub invariant-loop-number : goal.invariant-loop-number
invariant-loop-number l = taken_from_each l.self l.item l.count (drop l.number-index l.members) ≡ taken_from_each l.fn.self l.item l.count l.members
