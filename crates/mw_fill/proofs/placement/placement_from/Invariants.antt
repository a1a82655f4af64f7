use Rattle.std.proofs.Common.{◌≡◌, map, take}
use Rattle.mw_fill.specs.Kept.{end_held}
use Rattle.mw_fill.proofs.placement.placement_from.Given as goal

abbrev pub invariant-loop-opening : goal.invariant-loop-opening
invariant-loop-opening l = l.placement ≡ map (end_held l.held) (take l.opening-index l.openings)
