use Rattle.std.proofs.Common.{◌≡◌, map, take}
use Rattle.mw_model.specs.Json.{ItemsAreWritable}
use Rattle.mw_protocol.specs.Reading.{hint_json}
use Rattle.mw_json.specs.View.{view, items_view}
use Rattle.mw_effects.proofs.gets.hints_tree.Given as goal

abbrev pub invariant-loop-hint : goal.invariant-loop-hint
invariant-loop-hint l = (map view l.trees ≡ map hint_json (take l.hint-index l.hints)) × ItemsAreWritable (items_view l.trees)
