use Rattle.std.proofs.Common.{◌≡◌, map, take}
use Rattle.mw_model.specs.Json.{ItemsAreWritable}
use Rattle.mw_multidata.specs.Written.{group_json}
use Rattle.mw_json.specs.View.{view, items_view}
use Rattle.mw_multidata.proofs.group_trees.groups_tree.Given as goal

abbrev pub invariant-loop-group : goal.invariant-loop-group
invariant-loop-group l = (map view l.trees ≡ map group_json (take l.group-index l.groups)) × ItemsAreWritable (items_view l.trees)
