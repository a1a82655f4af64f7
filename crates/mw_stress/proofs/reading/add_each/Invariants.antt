use Rattle.std.proofs.Common.{◌≡◌, ◌++◌, drop}
use Rattle.mw_json.specs.View.{items_view}
use Rattle.mw_stress.specs.Received.{packets_items}
use Rattle.mw_stress.proofs.reading.add_each.Given as goal

-- those so far and those of the rest are all
abbrev pub invariant-loop-packet : goal.invariant-loop-packet
invariant-loop-packet l = l.found ++ packets_items (items_view (drop l.packet-index l.packets)) ≡ l.fn.found ++ packets_items (items_view l.packets)
