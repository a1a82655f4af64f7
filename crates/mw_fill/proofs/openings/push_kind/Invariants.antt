use Rattle.std.proofs.Common.{◌≡◌, ◌++◌, take}
use Rattle.mw_fill.specs.Openings.{of_kind}
use Rattle.mw_fill.proofs.openings.push_kind.Given as goal

abbrev pub invariant-loop-opening : goal.invariant-loop-opening
invariant-loop-opening l = l.into ≡ l.fn.into ++ of_kind l.kind (take l.opening-index l.openings)
