use Rattle.std.proofs.Common.{◌≡◌, map, take}
use Rattle.mw_model.specs.Json.{ItemsAreWritable}
use Rattle.mw_multidata.specs.Written.{start_json}
use Rattle.mw_json.specs.View.{view, items_view}
use Rattle.mw_multidata.proofs.slot_trees.start_tree.Given as goal

abbrev pub invariant-loop-item : goal.invariant-loop-item
invariant-loop-item l = (map view l.trees ≡ map start_json (take l.item-index l.start)) × ItemsAreWritable (items_view l.trees)
