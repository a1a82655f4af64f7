use Rattle.std.proofs.Common.{refl}
use Rattle.std.specs.Prelude.{string_bytes}
use Rattle.mw_protocol.specs.Messages.{packet_text}
use Rattle.mw_packets_out.specs.View.{packet_view}
use Rattle.mw_packets_out.proofs.Joined.{joined_next}
use Rattle.mw_packets_out.proofs.joining.push_packets.Goals as goal

pub loop-i-preserved : goal.loop-i-preserved
loop-i-preserved c =
    let l = c.loop-i in
    joined_next (λ p. packet_text (packet_view p)) c.args.after _ l.i c.args.packets.now c.index-packets-i.result c.index-packets-i.result c.as_str.result.now
    (string_bytes c.args.out.now) (string_bytes l.out) (string_bytes c.push_text.new.out)
    c.loop-i-test.true c.index-packets-i.is (rw c.as_str.ensures c.in_ok-text.ensures) refl l.invariant c.in_ok-push_text.ensures
