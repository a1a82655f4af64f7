use Rattle.std.proofs.Common.{◌≡◌, ◌++◌, drop, map}
use Rattle.mw_json.specs.View.{items_view}
use Rattle.mw_packets_in.specs.PacketsOf.{each_inbound}
use Rattle.mw_packets_in.specs.View.{inbound_view}
use Rattle.mw_packets_in.proofs.message.inbounds.Given as goal

abbrev pub invariant-loop-item : goal.invariant-loop-item
invariant-loop-item l = map inbound_view l.found ++ each_inbound (items_view (drop l.item-index l.items)) ≡ each_inbound (items_view l.items)
