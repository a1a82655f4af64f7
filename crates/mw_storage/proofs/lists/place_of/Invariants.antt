use Rattle.std.proofs.Common.{◌≡◌, drop}
use Rattle.mw_json.specs.View.{view, items_view}
use Rattle.mw_protocol.specs.Operations.{place_from}
use Rattle.mw_storage.proofs.lists.place_of.Given as goal

-- it is none of those that were passed
abbrev pub invariant-loop-i : goal.invariant-loop-i
invariant-loop-i l = place_from l.i (view l.wanted) (items_view (drop l.i l.items)) ≡ place_from 0 (view l.wanted) (items_view l.items)
