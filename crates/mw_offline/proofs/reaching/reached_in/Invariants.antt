use Rattle.std.proofs.Common.{◌≡◌, ◌≤◌}
use Rattle.mw_reach.specs.Reached.{places_in}
use Rattle.mw_offline.specs.Reaching.{reached_from}
use Rattle.mw_offline.proofs.reaching.reached_in.Given as goal

-- the places before this one are counted
abbrev pub invariant-loop-index : goal.invariant-loop-index
invariant-loop-index l = (l.count ≡ reached_from (places_in l.reached) l.first l.index) × (l.count ≤ l.index)
