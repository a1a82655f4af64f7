-- An event as plain data.
use Rattle.mw_protocol.specs.Rooms as plain
use Rattle.mw_packets_in.specs.View.{packet_view, bad_view}
use Rattle.mw_room.specs.declared.event.Event.{Event}
use Rattle.mw_room.specs.declared.event.Event.TheVariants.{Open, Packet, Bad, Lost}

abbrev pub event_view : Event → plain.Event
event_view (Open time) = plain.opened time
event_view (Packet session packet) = plain.sent session (packet_view packet)
event_view (Bad session bad) = plain.failed session (bad_view bad)
event_view (Lost session) = plain.lost session
