use Rattle.std.proofs.Common.{◌≡◌, drop}
use Rattle.mw_json.specs.View.{items_view}
use Rattle.mw_protocol.specs.Operations.{append_items, lacking}
use Rattle.mw_storage.proofs.lists.lacking.Given as goal

-- those that were found, with those that are left to find, are all
abbrev pub invariant-loop-item : goal.invariant-loop-item
invariant-loop-item l =
    append_items (items_view l.found) (lacking (items_view l.items) (items_view (drop l.item-index l.more))) ≡ lacking (items_view l.items) (items_view l.more)
