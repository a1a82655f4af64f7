use Rattle.std.proofs.Common.{◌≡◌, map, take}
use Rattle.mw_model.specs.Json.{ItemsAreWritable}
use Rattle.mw_protocol.specs.Messages.{item_json}
use Rattle.mw_json.specs.View.{view, items_view}
use Rattle.mw_packets_out.proofs.lists.items_tree.Given as goal

abbrev pub invariant-loop-item : goal.invariant-loop-item
invariant-loop-item l = (map view l.trees ≡ map item_json (take l.item-index l.items)) × ItemsAreWritable (items_view l.trees)
