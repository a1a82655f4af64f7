use Rattle.std.proofs.Common.{[], map, ◌++◌, refl, ◌∙◌}
use Rattle.mw_packets_out.specs.View.{packet_view}
use Rattle.mw_packets_out.proofs.Joined.{message_in_brackets}
use Rattle.mw_packets_out.proofs.Writable.{nothing_more}
use Rattle.mw_packets_out.proofs.joining.write_both.Goals as goal

pub returns : goal.returns
returns c =
    let packets = map packet_view c.args.answers.now ++ map packet_view c.args.others.now in
    c.in_ok-write_with.ensures ∙ message_in_brackets packets [] [] refl ∙ nothing_more packets
