use Rattle.std.proofs.Common.{◌≡◌, ◌++◌, map, take}
use Rattle.std.specs.Prelude.{string_bytes}
use Rattle.mw_protocol.specs.Messages.{packet_text}
use Rattle.mw_packets_out.specs.Joined.{joined}
use Rattle.mw_packets_out.specs.View.{packet_view}
use Rattle.mw_packets_out.proofs.joining.push_packets.Given as goal

abbrev pub invariant-loop-i : goal.invariant-loop-i
invariant-loop-i l = string_bytes l.out ≡ string_bytes l.initial.out ++ joined l.after (map (λ p. packet_text (packet_view p)) (take l.i l.packets))
