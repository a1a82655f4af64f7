use Rattle.std.proofs.Common.{◌≡◌, map}
use Rattle.mw_model.specs.Json.{ItemsAreWritable}
use Rattle.mw_json.specs.View.{view, items_view}
use Rattle.mw_clock.specs.Tables.{boxes_json}
use Rattle.mw_clock.proofs.trees.boxes.Given as goal

-- those from the floors so far, which can be written
abbrev pub invariant-loop-i : goal.invariant-loop-i
invariant-loop-i l = (map view l.trees ≡ boxes_json l.i) × ItemsAreWritable (items_view l.trees)
