use Rattle.std.proofs.Common.{◌≡◌, map, take}
use Rattle.std.specs.Prelude.{filter}
use Rattle.mw_multi.specs.Placement.{numbers_at}
use Rattle.mw_reach.specs.Split.{leads_to_leaf, row_to}
use Rattle.mw_reach.proofs.splitting.leaves_at.Given as goal

abbrev pub invariant-loop-number : goal.invariant-loop-number
invariant-loop-number l = l.found ≡ map (row_to l.rows.rows) (filter (leads_to_leaf l.free l.rows.rows l.rows.by_place l.place) (take l.number-index (numbers_at l.rows.by_place l.place)))
