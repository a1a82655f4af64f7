-- What a packet means, and what is no packet.
use Rattle.mw_protocol.specs.Packets as plain
use Rattle.mw_packets_in.specs.declared.bad.Bad.{Bad}
use Rattle.mw_packets_in.specs.declared.bad.BadKind.{BadKind}
use Rattle.mw_packets_in.specs.declared.bad.BadKind.TheVariants as kind
use Rattle.mw_packets_in.specs.declared.inbound.Inbound.{Inbound}
use Rattle.mw_packets_in.specs.declared.inbound.Inbound.TheVariants.{Good, Wrong}
use Rattle.mw_packets_in.specs.declared.packet.Packet.{Packet}
use Rattle.mw_packets_in.specs.declared.packet.Packet.TheVariants.{Connect, ConnectUpdate, Sync, LocationChecks, LocationScouts, UpdateHint, StatusUpdate, Say, GetDataPackage, Bounce, Get, Change, SetNotify}

abbrev pub packet_view : Packet → plain.Packet
packet_view (Connect connect) = plain.connect connect.value
packet_view (ConnectUpdate update) = plain.connect_update update
packet_view Sync = plain.sync
packet_view (LocationChecks locations) = plain.location_checks locations
packet_view (LocationScouts scouts) = plain.location_scouts scouts.locations scouts.create_as_hint
packet_view (UpdateHint update) = plain.update_hint update
packet_view (StatusUpdate status) = plain.status_update status
packet_view (Say text) = plain.say text
packet_view (GetDataPackage games) = plain.get_data_package games
packet_view (Bounce bounce) = plain.bounce bounce.value
packet_view (Get get) = plain.get get.keys get.further
packet_view (Change set) = plain.change set.value
packet_view (SetNotify keys) = plain.set_notify keys

abbrev pub kind_view : BadKind → plain.BadKind
kind_view kind.Cmd = plain.bad_cmd
kind_view kind.Arguments = plain.bad_arguments

abbrev pub bad_view : Bad → plain.Bad
bad_view bad = record { kind = kind_view bad.kind; cmd = bad.cmd; why = bad.why }

abbrev pub inbound_view : Inbound → plain.Inbound
inbound_view (Good packet) = plain.good (packet_view packet)
inbound_view (Wrong bad) = plain.wrong (bad_view bad)
