use Rattle.std.proofs.Common.{◌≡◌, map, take}
use Rattle.mw_model.specs.Json.{ItemsAreWritable}
use Rattle.mw_multidata.specs.Written.{sphere_json}
use Rattle.mw_json.specs.View.{view, items_view}
use Rattle.mw_multidata.proofs.sphere_trees.spheres_tree.Given as goal

abbrev pub invariant-loop-sphere : goal.invariant-loop-sphere
invariant-loop-sphere l = (map view l.trees ≡ map sphere_json (take l.sphere-index l.spheres)) × ItemsAreWritable (items_view l.trees)
