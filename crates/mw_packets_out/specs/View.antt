-- What a packet means.
use Rattle.mw_protocol.specs.Messages as plain
use Rattle.mw_protocol.specs.Packets.{BadKind, bad_cmd, bad_arguments}
use Rattle.mw_json.specs.View.{view}
use Rattle.mw_packets_out.specs.declared.packet.InvalidKind.{InvalidKind}
use Rattle.mw_packets_out.specs.declared.packet.InvalidKind.TheVariants.{Cmd, Arguments}
use Rattle.mw_packets_out.specs.declared.packet.ServerPacket.{ServerPacket}
use Rattle.mw_packets_out.specs.declared.packet.ServerPacket.TheVariants.{RoomInfo, Connected, ReceivedItems, RoomUpdate, ConnectionRefused, LocationInfo, DataPackage, InvalidPacket, PrintJson, Retrieved, SetReply, Bounced}

abbrev pub kind_view : InvalidKind → BadKind
kind_view Cmd = bad_cmd
kind_view Arguments = bad_arguments

abbrev pub packet_view : ServerPacket → plain.ServerPacket
packet_view (RoomInfo info) = plain.room_info info
packet_view (Connected connected) = plain.connected connected
packet_view (ReceivedItems index items) = plain.received_items index items
packet_view (RoomUpdate locations points) = plain.room_update locations points
packet_view (ConnectionRefused errors) = plain.connection_refused errors
packet_view (LocationInfo locations) = plain.location_info locations
packet_view (DataPackage content) = plain.data_package (view content)
packet_view (InvalidPacket kind cmd text) =
    plain.invalid_packet (record { kind = kind_view kind; cmd = cmd; why = text })
packet_view (PrintJson print) = plain.print print
packet_view (Retrieved values) = plain.retrieved values
packet_view (SetReply reply) = plain.set_reply reply
packet_view (Bounced message) = plain.bounced message
