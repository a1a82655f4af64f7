use Rattle.mw_json.specs.View.{members_view}
use Rattle.mw_packets_in.proofs.Passed.{packet_read}
use Rattle.mw_packets_in.proofs.message.object_inbound.Goals as goal

pub inbound_by-requires : goal.inbound_by-requires
inbound_by-requires c = packet_read (members_view c.args.parts.now) c.requires
