use Rattle.std.proofs.Common.{ap, not, ◌||◌}
use Rattle.mw_packets_out.specs.View.{packet_view}
use Rattle.mw_packets_out.proofs.Joined.{brackets_with}
use Rattle.mw_packets_out.proofs.joining.write_with.Goals as goal

pub returns : goal.returns
returns c =
    let after = not c.is_empty-after.result in
    rw (c.from_string.ensures, c.in_ok-push_str.ensures.bytes, c.in_ok-push_written.ensures, c.in_ok-push_packets-2.ensures, c.in_ok-push_packets.ensures, c.in_ok-out.ensures.ok)
    (brackets_with packet_view c.args.answers.now c.args.others.now _ after (after || not c.is_empty.result)
    (ap not c.is_empty-after.ensures) (ap (λ b. after || not b) c.is_empty.ensures))
