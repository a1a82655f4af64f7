-- What a client knows of its items that hears all that its session is owed.
use Rattle.std.specs.Prelude.{◌≡◌, ◌⊎◌, ℕ, ◌++◌, ◌∷◌, [], List, Some, IsFalse, take}
use Rattle.mw_model.specs.Items.{NetItem}
use Rattle.mw_model.specs.Seed.{Seed}
use Rattle.mw_protocol.specs.Asked.{view}
use Rattle.mw_protocol.specs.Connecting.{Member}
use Rattle.mw_protocol.specs.Messages.{ServerPacket, room_info, connected, received_items, room_update, connection_refused, location_info, data_package, invalid_packet, print, retrieved, set_reply, bounced}
use Rattle.mw_protocol.specs.Rooms.{Message, Session, session_in}
use Rattle.mw_laws.specs.Turns.{Turn, room_after}

-- the items that ReceivedItems hold stand in the client's list from their index on
abbrev pub hear : List NetItem → ServerPacket → List NetItem
hear list (received_items index items) = take index list ++ items
hear list (room_info info) = list
hear list (connected c) = list
hear list (room_update locations points) = list
hear list (connection_refused errors) = list
hear list (location_info items) = list
hear list (data_package content) = list
hear list (invalid_packet bad) = list
hear list (print p) = list
hear list (retrieved r) = list
hear list (set_reply r) = list
hear list (bounced b) = list

-- one packet after another, and one message after another
abbrev pub hear_packets : List NetItem → List ServerPacket → List NetItem
hear_packets list [] = list
hear_packets list (p ∷ ps) = hear_packets (hear list p) ps

abbrev pub hear_messages : List NetItem → List Message → List NetItem
hear_messages list [] = list
hear_messages list (m ∷ ms) = hear_messages (hear_packets list m.packets) ms

-- the list of a client that began with none and heard all that the session was owed
abbrev pub client_list : Session → List NetItem
client_list s = hear_messages [] s.owed

-- after any turns, the client of a session that isn't overrun has in its list just what its mask keeps of what its slot received; an empty view isn't told, so where the view is empty the list may be an older one
abbrev pub ClientsFollow : Type 0
ClientsFollow = (seed : Seed) (turns : List Turn) (number : ℕ) (s : Session) (m : Member)
    → session_in (room_after seed turns).sessions number ≡ Some s → s.member ≡ Some m
    → IsFalse s.overrun
    → (client_list s ≡ view seed m.mask m.team m.slot (room_after seed turns).journal)
    ⊎ (view seed m.mask m.team m.slot (room_after seed turns).journal ≡ [])
