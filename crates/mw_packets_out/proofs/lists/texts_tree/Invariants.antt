use Rattle.std.proofs.Common.{◌≡◌, map, take}
use Rattle.mw_model.specs.Json.{ItemsAreWritable}
use Rattle.mw_model.specs.Trees.{text_json}
use Rattle.mw_json.specs.View.{view, items_view}
use Rattle.mw_packets_out.proofs.lists.texts_tree.Given as goal

abbrev pub invariant-loop-text : goal.invariant-loop-text
invariant-loop-text l = (map view l.trees ≡ map text_json (take l.text-index l.texts)) × ItemsAreWritable (items_view l.trees)
