use Rattle.std.proofs.Common.{◌≡◌, take}
use Rattle.std.specs.Prelude.{sum_by}
use Rattle.mw_fill.specs.Generated.{link_size}
use Rattle.mw_fill.proofs.generating.link_copies.Given as goal

abbrev pub invariant-loop-link : goal.invariant-loop-link
invariant-loop-link l = l.total ≡ sum_by link_size (take l.link-index l.link-items)
