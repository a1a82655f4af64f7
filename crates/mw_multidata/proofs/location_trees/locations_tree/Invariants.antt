use Rattle.std.proofs.Common.{◌≡◌, map, take}
use Rattle.mw_model.specs.Json.{ItemsAreWritable}
use Rattle.mw_multidata.specs.Written.{held_json}
use Rattle.mw_json.specs.View.{view, items_view}
use Rattle.mw_multidata.proofs.location_trees.locations_tree.Given as goal

abbrev pub invariant-loop-held : goal.invariant-loop-held
invariant-loop-held l = (map view l.trees ≡ map held_json (take l.held-index l.locations)) × ItemsAreWritable (items_view l.trees)
