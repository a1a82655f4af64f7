use Rattle.std.proofs.Common.{◌≡◌, map, take}
use Rattle.mw_model.specs.Json.{ItemsAreWritable}
use Rattle.mw_model.specs.Trees.{id_json}
use Rattle.mw_json.specs.View.{view, items_view}
use Rattle.mw_client.proofs.sending.locations_tree.Given as goal

-- the trees so far
abbrev pub invariant-loop-location : goal.invariant-loop-location
invariant-loop-location l = record {
  value : map view l.trees ≡ map id_json (take l.location-index l.locations);
  writable : ItemsAreWritable (items_view l.trees);
}
