use Rattle.std.proofs.Common.{◌≡◌, map, take}
use Rattle.mw_model.specs.Json.{ItemsAreWritable}
use Rattle.mw_model.specs.Trees.{id_json}
use Rattle.mw_json.specs.View.{view, items_view}
use Rattle.mw_packets_out.proofs.bounced.wholes_tree.Given as goal

abbrev pub invariant-loop-number : goal.invariant-loop-number
invariant-loop-number l = (map view l.trees ≡ map id_json (take l.number-index l.numbers)) × ItemsAreWritable (items_view l.trees)
