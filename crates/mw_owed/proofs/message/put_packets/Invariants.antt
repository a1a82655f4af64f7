use Rattle.std.proofs.Common.{◌≡◌, drop, map}
use Rattle.std.specs.Prelude.{string_bytes}
use Rattle.mw_protocol.specs.Messages.{packet_text}
use Rattle.mw_packets_out.specs.View.{packet_view}
use Rattle.mw_owed.specs.Written.{all_behind}
use Rattle.mw_owed.proofs.message.put_packets.Given as goal

abbrev pub invariant-loop-packet : goal.invariant-loop-packet
invariant-loop-packet l =
    all_behind (string_bytes l.out) (map packet_text (map packet_view (drop l.packet-index l.packets)))
    ≡ all_behind (string_bytes l.initial.out) (map packet_text (map packet_view l.packets))
