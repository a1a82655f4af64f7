use Rattle.std.proofs.Common.{◌≡◌, map, take}
use Rattle.mw_model.specs.Json.{ItemsAreWritable}
use Rattle.mw_multidata.specs.Written.{slot_json}
use Rattle.mw_json.specs.View.{view, items_view}
use Rattle.mw_multidata.proofs.slot_trees.slots_tree.Given as goal

abbrev pub invariant-loop-slot : goal.invariant-loop-slot
invariant-loop-slot l = (map view l.trees ≡ map slot_json (take l.slot-index l.slots)) × ItemsAreWritable (items_view l.trees)
