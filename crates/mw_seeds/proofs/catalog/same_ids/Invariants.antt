use Rattle.std.proofs.Common.{◌≡◌, map, take}
use Rattle.mw_multi.specs.WorldKept.{item_id}
use Rattle.mw_seeds.proofs.catalog.same_ids.Given as goal

-- the ids so far are the same
abbrev pub invariant-loop-index : goal.invariant-loop-index
invariant-loop-index l = map item_id (take l.index l.a) ≡ map item_id (take l.index l.b)
