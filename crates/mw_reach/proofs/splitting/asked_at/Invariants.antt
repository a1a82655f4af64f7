use Rattle.std.proofs.Common.{◌≡◌, take}
use Rattle.std.specs.Prelude.{filter}
use Rattle.mw_multi.specs.Placement.{numbers_at}
use Rattle.mw_reach.specs.Split.{is_asked}
use Rattle.mw_reach.proofs.splitting.asked_at.Given as goal

abbrev pub invariant-loop-number : goal.invariant-loop-number
invariant-loop-number l = l.found ≡ filter (is_asked l.free l.rows.rows l.rows.by_place l.place) (take l.number-index (numbers_at l.rows.by_place l.place))
