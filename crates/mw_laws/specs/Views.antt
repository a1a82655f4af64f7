-- What a session hears of the items that its slot received.
use Rattle.std.specs.Prelude.{◌≡◌, ℕ, ◌==◌, ◌&&◌, ◌++◌, List, Bool, true, false, not, Option, Some, None, IsTrue, IsFalse, filter, length, drop, is_some}
use mathlib.Core.List.{IsPrefix}
use Rattle.mw_model.specs.Items.{NetItem}
use Rattle.mw_model.specs.Seed.{Seed}
use Rattle.mw_protocol.specs.Asked.{view}
use Rattle.mw_protocol.specs.Connecting.{Member, member_by, updated}
use Rattle.mw_protocol.specs.Messages.{ServerPacket, room_info, connected, received_items, room_update, connection_refused, location_info, data_package, invalid_packet, print, retrieved, set_reply, bounced}
use Rattle.mw_protocol.specs.Owed.{items_from, view_of}
use Rattle.mw_protocol.specs.Packets.{Packet, connect, connect_update, sync}
use Rattle.mw_protocol.specs.Records.{Record}
use Rattle.mw_protocol.specs.Rooms.{Session, Room, Event, opened, sent, failed, lost, session_in, next}
use Rattle.mw_laws.specs.Turns.{Turn, room_after, now, member_then, owed_by}

-- ---- views grow

-- through one mask, what a slot received only grows, at its end: as a journal does, and from any point of any turns to any later one
pub record ViewsGrow : Type 0 where
  pub journals : (seed : Seed) (mask team slot : ℕ) (journal more : List Record)
      → IsPrefix (view seed mask team slot journal) (view seed mask team slot (journal ++ more))
  pub turns : (seed : Seed) (mask team slot : ℕ) (turns more : List Turn)
      → IsPrefix (view seed mask team slot (room_after seed turns).journal)
      (view seed mask team slot (room_after seed (turns ++ more)).journal)

-- ---- what an event owes of them

abbrev pub is_received_items : ServerPacket → Bool
is_received_items (received_items index items) = true
is_received_items (room_info info) = false
is_received_items (connected c) = false
is_received_items (room_update locations points) = false
is_received_items (connection_refused errors) = false
is_received_items (location_info items) = false
is_received_items (data_package content) = false
is_received_items (invalid_packet bad) = false
is_received_items (print p) = false
is_received_items (retrieved r) = false
is_received_items (set_reply r) = false
is_received_items (bounced b) = false

-- a Connect that makes its sender a member, another mask, and a Sync ask for the whole view
abbrev pub asks_whole : Seed → Option Member → Packet → Bool
asks_whole seed None (connect fields) = is_some (member_by seed fields)
asks_whole seed (Some m) (connect_update u) = not ((updated m u).mask == m.mask)
asks_whole seed (Some m) sync = true
asks_whole seed member packet = false

-- for that of the session that sent them
abbrev pub asks_by : Room → Event → Session → Bool
asks_by room (opened time) s = false
asks_by room (sent sender packet) s = (s.number == sender) && asks_whole room.seed s.member packet
asks_by room (failed sender bad) s = false
asks_by room (lost sender) s = false

-- what the member's slot received after an event, and before it, through its mask after it
abbrev pub view_then : Room → Event → Member → List NetItem
view_then room event m = view_of room.seed (now (next room event)) m

abbrev pub view_before : Room → Member → List NetItem
view_before room m = view_of room.seed (now room) m

abbrev pub items_told : Room → Event → Session → List ServerPacket
items_told room event s = filter is_received_items (owed_by room event s)

-- who is this member after an event is told of its whole view from index 0 where that is asked for, and else of what the view grew by, from its length before; of nothing where that is empty
pub record IsToldItems (room : Room) (event : Event) (s : Session) (m : Member) : Type 0 where
  pub whole : IsTrue (asks_by room event s)
      → items_told room event s ≡ items_from 0 (view_then room event m)
  pub tail : IsFalse (asks_by room event s)
      → items_told room event s
      ≡ items_from (length (view_before room m))
      (drop (length (view_before room m)) (view_then room event m))
  pub grown : view_before room m ++ drop (length (view_before room m)) (view_then room event m)
      ≡ view_then room event m

-- so it is in every room, for each session that is open in it
abbrev pub WholeViewsAreOwed : Type 0
WholeViewsAreOwed = (room : Room) (event : Event) (number : ℕ) (s : Session) (m : Member)
    → session_in room.sessions number ≡ Some s → member_then room event s ≡ Some m
    → IsToldItems room event s m
