use Rattle.std.proofs.Common.{◌≡◌, ◌++◌, take}
use Rattle.mw_spheres.proofs.sphere.push_items.Given as goal

abbrev pub invariant-loop-number : goal.invariant-loop-number
invariant-loop-number l = l.items ≡ l.fn.items ++ take l.number-index l.numbers
