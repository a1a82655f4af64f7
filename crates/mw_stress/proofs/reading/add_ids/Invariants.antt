use Rattle.std.proofs.Common.{◌≡◌, ◌++◌, drop}
use Rattle.mw_json.specs.View.{items_view}
use Rattle.mw_stress.specs.Received.{ids_in}
use Rattle.mw_stress.proofs.reading.add_ids.Given as goal

-- those so far and those of the rest are all
abbrev pub invariant-loop-item : goal.invariant-loop-item
invariant-loop-item l = l.found ++ ids_in (items_view (drop l.item-index l.items)) ≡ l.fn.found ++ ids_in (items_view l.items)
