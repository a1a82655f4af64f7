use Rattle.std.proofs.Common.{◌≡◌, map, take}
use Rattle.mw_model.specs.Json.{ItemsAreWritable}
use Rattle.mw_protocol.specs.Messages.{number_json}
use Rattle.mw_json.specs.View.{view, items_view}
use Rattle.mw_packets_out.proofs.slot_info.numbers_tree.Given as goal

abbrev pub invariant-loop-slot : goal.invariant-loop-slot
invariant-loop-slot l = (map view l.trees ≡ map number_json (take l.slot-index l.slots)) × ItemsAreWritable (items_view l.trees)
