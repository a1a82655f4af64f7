use Rattle.std.proofs.Common.{◌≡◌, drop, map}
use Rattle.mw_multi.specs.Links.{left_of, least, shared}
use Rattle.mw_multi.proofs.left.Left.shared.Given as goal

abbrev pub invariant-loop-number : goal.invariant-loop-number
invariant-loop-number l = least l.least (map (left_of l.self l.item) (drop l.number-index l.members)) ≡ shared l.self l.members l.item
