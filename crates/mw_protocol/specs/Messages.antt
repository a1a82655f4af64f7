-- What a room tells a session, and its JSON, after Archipelago's network protocol.
use Rattle.std.specs.Prelude.{ℕ, ℤ, pos, ◌∷◌, [], List, Bool, Option, Some, None, codes, decimal, map}
use Rattle.mw_model.specs.Items.{NetItem}
use Rattle.mw_model.specs.Json.{Json, null, flag, whole, words, many, members, no_items, Members, no_members, member}
use Rattle.mw_model.specs.Spelling.{spelling}
use Rattle.mw_model.specs.Trees.{items_of, put_member, text_json, id_json}
use Rattle.mw_protocol.specs.Packets.{Bad, BadKind, bad_cmd, bad_arguments, Bounce}

-- a game, and the checksum of its names
pub record GameSum : Type 0 where
  pub game : List ℕ
  pub checksum : List ℕ

pub record RoomInfo : Type 0 where
  pub password : Bool
  pub release : ℕ
  pub collect : ℕ
  pub remaining : ℕ
  pub hint_cost : ℕ
  pub location_check_points : ℕ
  pub games : List GameSum
  pub seed_name : List ℕ
  pub time : ℕ

pub record NetworkPlayer : Type 0 where
  pub team : ℕ
  pub slot : ℕ
  pub name : List ℕ

-- a player or a group, which has members
pub record NetworkSlot : Type 0 where
  pub slot : ℕ
  pub name : List ℕ
  pub game : List ℕ
  pub members : List ℕ

pub record Connected : Type 0 where
  pub team : ℕ
  pub slot : ℕ
  pub players : List NetworkPlayer
  pub missing_locations : List ℤ
  pub checked_locations : List ℤ
  pub slot_info : List NetworkSlot
  pub hint_points : ℕ

-- a text of the room for its players: its kind, the members that a print of this kind has further, in byte order, and its parts
pub record PrintJson : Type 0 where
  pub kind : List ℕ
  pub further : Members
  pub content : List Json

-- the values of keys, in the byte order of the keys, and the further members of the question
pub record Retrieved : Type 0 where
  pub keys : Members
  pub further : Members

-- a key's value after a change and before it, the slot that changed it, and the further members of the change
pub record SetReply : Type 0 where
  pub key : List ℕ
  pub value : Json
  pub original_value : Json
  pub slot : ℕ
  pub further : Members

pub data ServerPacket : Type 0 where
  room_info : RoomInfo → ServerPacket
  connected : Connected → ServerPacket
  -- the place of the first item in the session's list, and the items from there on
  received_items : ℕ → List NetItem → ServerPacket
  -- the slot's new locations, and its points
  room_update : List ℤ → ℕ → ServerPacket
  -- why a Connect is refused
  connection_refused : List (List ℕ) → ServerPacket
  -- what stands at locations, each item with its receiver as player
  location_info : List NetItem → ServerPacket
  -- the names of games, as an object
  data_package : Json → ServerPacket
  -- what a client sent that is no packet, or that can't be done
  invalid_packet : Bad → ServerPacket
  print : PrintJson → ServerPacket
  retrieved : Retrieved → ServerPacket
  set_reply : SetReply → ServerPacket
  -- what a session sends to those who share a game, a slot or a tag
  bounced : Bounce → ServerPacket

-- ---- JSON

abbrev pub version_json : Json
version_json =
    members (member (codes "build") (whole (pos 0))
    (member (codes "class") (words (codes "Version"))
    (member (codes "major") (whole (pos 0))
    (member (codes "minor") (whole (pos 5)) no_members))))

abbrev pub item_json : NetItem → Json
item_json i =
    members (member (codes "class") (words (codes "NetworkItem"))
    (member (codes "flags") (whole (pos i.flags))
    (member (codes "item") (whole i.item)
    (member (codes "location") (whole i.location)
    (member (codes "player") (whole (pos i.player)) no_members)))))

abbrev pub player_json : NetworkPlayer → Json
player_json p =
    members (member (codes "alias") (words p.name)
    (member (codes "class") (words (codes "NetworkPlayer"))
    (member (codes "name") (words p.name)
    (member (codes "slot") (whole (pos p.slot))
    (member (codes "team") (whole (pos p.team)) no_members)))))

abbrev pub number_json : ℕ → Json
number_json n = whole (pos n)

-- a player's type is 1, a group's is 2
abbrev pub slot_type : List ℕ → ℕ
slot_type [] = 1
slot_type (first ∷ others) = 2

abbrev pub slot_json : NetworkSlot → Json
slot_json s =
    members (member (codes "class") (words (codes "NetworkSlot"))
    (member (codes "game") (words s.game)
    (member (codes "group_members") (many (items_of (map number_json s.members)))
    (member (codes "name") (words s.name)
    (member (codes "type") (number_json (slot_type s.members)) no_members)))))

-- each slot under its number in decimal, in byte order
abbrev pub slot_info_members : List NetworkSlot → Members
slot_info_members [] = no_members
slot_info_members (s ∷ ss) = put_member (decimal s.slot) (slot_json s) (slot_info_members ss)

-- the games stand in byte order
abbrev pub checksum_members : List GameSum → Members
checksum_members [] = no_members
checksum_members (g ∷ gs) = member g.game (words g.checksum) (checksum_members gs)

abbrev pub game_name : GameSum → List ℕ
game_name g = g.game

abbrev pub permissions_json : RoomInfo → Json
permissions_json r =
    members (member (codes "collect") (whole (pos r.collect))
    (member (codes "release") (whole (pos r.release))
    (member (codes "remaining") (whole (pos r.remaining)) no_members)))

abbrev pub room_info_json : RoomInfo → Json
room_info_json r =
    members (member (codes "cmd") (words (codes "RoomInfo"))
    (member (codes "datapackage_checksums") (members (checksum_members r.games))
    (member (codes "games") (many (items_of (map text_json (map game_name r.games))))
    (member (codes "generator_version") version_json
    (member (codes "hint_cost") (whole (pos r.hint_cost))
    (member (codes "location_check_points") (whole (pos r.location_check_points))
    (member (codes "password") (flag r.password)
    (member (codes "permissions") (permissions_json r)
    (member (codes "seed_name") (words r.seed_name)
    (member (codes "tags") (many no_items)
    (member (codes "time") (whole (pos r.time))
    (member (codes "version") version_json no_members))))))))))))

abbrev pub connected_json : Connected → Json
connected_json c =
    members (member (codes "checked_locations") (many (items_of (map id_json c.checked_locations)))
    (member (codes "cmd") (words (codes "Connected"))
    (member (codes "hint_points") (whole (pos c.hint_points))
    (member (codes "missing_locations") (many (items_of (map id_json c.missing_locations)))
    (member (codes "players") (many (items_of (map player_json c.players)))
    (member (codes "slot") (whole (pos c.slot))
    (member (codes "slot_data") (members no_members)
    (member (codes "slot_info") (members (slot_info_members c.slot_info))
    (member (codes "team") (whole (pos c.team)) no_members)))))))))

abbrev pub received_items_json : ℕ → List NetItem → Json
received_items_json index items =
    members (member (codes "cmd") (words (codes "ReceivedItems"))
    (member (codes "index") (whole (pos index))
    (member (codes "items") (many (items_of (map item_json items))) no_members)))

abbrev pub room_update_json : List ℤ → ℕ → Json
room_update_json locations points =
    members (member (codes "checked_locations") (many (items_of (map id_json locations)))
    (member (codes "cmd") (words (codes "RoomUpdate"))
    (member (codes "hint_points") (whole (pos points)) no_members)))

abbrev pub connection_refused_json : List (List ℕ) → Json
connection_refused_json errors =
    members (member (codes "cmd") (words (codes "ConnectionRefused"))
    (member (codes "errors") (many (items_of (map text_json errors))) no_members))

abbrev pub location_info_json : List NetItem → Json
location_info_json items =
    members (member (codes "cmd") (words (codes "LocationInfo"))
    (member (codes "locations") (many (items_of (map item_json items))) no_members))

abbrev pub data_package_json : Json → Json
data_package_json content =
    members (member (codes "cmd") (words (codes "DataPackage"))
    (member (codes "data") content no_members))

abbrev pub text_or_null : Option (List ℕ) → Json
text_or_null None = null
text_or_null (Some s) = words s

abbrev pub kind_text : BadKind → List ℕ
kind_text bad_cmd = codes "cmd"
kind_text bad_arguments = codes "arguments"

abbrev pub invalid_packet_json : Bad → Json
invalid_packet_json b =
    members (member (codes "cmd") (words (codes "InvalidPacket"))
    (member (codes "original_cmd") (text_or_null b.cmd)
    (member (codes "text") (words b.why)
    (member (codes "type") (words (kind_text b.kind)) no_members))))

-- these members, and then the kind
abbrev pub then_kind : Members → List ℕ → Members
then_kind no_members kind = member (codes "type") (words kind) no_members
then_kind (member name j ms) kind = member name j (then_kind ms kind)

abbrev pub print_json : PrintJson → Json
print_json p =
    members (member (codes "cmd") (words (codes "PrintJSON"))
    (member (codes "data") (many (items_of p.content)) (then_kind p.further p.kind)))

-- the packet's own members at their places among the further ones
abbrev pub retrieved_json : Retrieved → Json
retrieved_json r =
    members (put_member (codes "cmd") (words (codes "Retrieved"))
    (put_member (codes "keys") (members r.keys) r.further))

abbrev pub set_reply_json : SetReply → Json
set_reply_json r =
    members (put_member (codes "cmd") (words (codes "SetReply"))
    (put_member (codes "key") (words r.key)
    (put_member (codes "original_value") r.original_value
    (put_member (codes "slot") (whole (pos r.slot))
    (put_member (codes "value") r.value r.further)))))

abbrev pub texts_json : List (List ℕ) → Json
texts_json texts = many (items_of (map text_json texts))

abbrev pub ids_json : List ℤ → Json
ids_json ids = many (items_of (map id_json ids))

-- a member, where it is given
abbrev pub put_if : {A : Type 0} → List ℕ → (A → Json) → Option A → Members → Members
put_if name json None ms = ms
put_if name json (Some x) ms = put_member name (json x) ms

abbrev pub bounced_json : Bounce → Json
bounced_json b =
    members (put_member (codes "cmd") (words (codes "Bounced"))
    (put_if (codes "games") texts_json b.games
    (put_if (codes "slots") ids_json b.slots
    (put_if (codes "tags") texts_json b.tags b.further))))

abbrev pub packet_json : ServerPacket → Json
packet_json (room_info r) = room_info_json r
packet_json (connected c) = connected_json c
packet_json (received_items index items) = received_items_json index items
packet_json (room_update locations points) = room_update_json locations points
packet_json (connection_refused errors) = connection_refused_json errors
packet_json (location_info items) = location_info_json items
packet_json (data_package content) = data_package_json content
packet_json (invalid_packet bad) = invalid_packet_json bad
packet_json (print p) = print_json p
packet_json (retrieved r) = retrieved_json r
packet_json (set_reply r) = set_reply_json r
packet_json (bounced b) = bounced_json b

-- a packet's text by itself
unfoldable pub packet_text : ServerPacket → List ℕ
packet_text packet = spelling (packet_json packet)

-- a message is the list of its packets
abbrev pub message_json : List ServerPacket → Json
message_json packets = many (items_of (map packet_json packets))

unfoldable pub message_text : List ServerPacket → List ℕ
message_text packets = spelling (message_json packets)
