-- Which checks a message shows to a session that plays a slot.
use Rattle.std.specs.Prelude.{ℕ, pos, ◌&&◌, ◌++◌, ◌∷◌, [], List, Bool, false, Option, Some, None, codes, bytes_eq, int_le, length, take, drop, nat_lt, map, filter, if◌then◌else◌}
use Rattle.std.specs.List.{position_or_len, before_first, after_first}
use Rattle.mw_model.specs.Items.{NetItem}
use Rattle.mw_model.specs.Json.{Json, null, flag, whole, not_whole, numeral, words, many, members, Items, no_items, item, Members, no_members, member, find_member, field_of}
use Rattle.mw_protocol.specs.Checks.{Check, checks_at}
use Rattle.mw_protocol.specs.Connecting.{Member}
use Rattle.mw_protocol.specs.Messages.{PrintJson, ServerPacket, room_info, connected, received_items, room_update, connection_refused, location_info, data_package, invalid_packet, print, retrieved, set_reply, bounced}
use Rattle.mw_protocol.specs.Reading.{is_underscore, numbered}
use Rattle.mw_protocol.specs.Rooms.{Message}

-- ---- items

abbrev pub item_check : ℕ → NetItem → Check
item_check team i = record { team = team; slot = i.player; location = i.location }

-- those of locations from 1 on: starting items are at none
abbrev pub at_locations : List Check → List Check
at_locations cs = filter (λ c. int_le (pos 1) c.location) cs

-- ---- what JSON says of a check

-- a location of a player, by their numbers
abbrev pub check_named : ℕ → Option Json → Option Json → List Check
check_named team (Some (whole (pos player))) (Some (whole location)) =
    record { team = team; slot = player; location = location } ∷ []
check_named team player location = []

abbrev pub is_flagged : Option Json → Bool
is_flagged (Some (flag b)) = b
is_flagged j = false

-- the player and the location of an item
abbrev pub item_shown : ℕ → Option Json → List Check
item_shown team None = []
item_shown team (Some i) =
    at_locations (check_named team (field_of (codes "player") i) (field_of (codes "location") i))

-- the item of an ItemSend, and that of a Hint which is found
abbrev pub print_shown : ℕ → PrintJson → List Check
print_shown team p =
    if bytes_eq p.kind (codes "ItemSend")
    then item_shown team (find_member (codes "item") p.further)
    else (if bytes_eq p.kind (codes "Hint") && is_flagged (find_member (codes "found") p.further)
    then item_shown team (find_member (codes "item") p.further) else [])

-- ---- the hints of a player, as a Get is answered

-- where a hint is found, the location of its finder
abbrev pub hint_shown : ℕ → Json → List Check
hint_shown team h =
    if is_flagged (field_of (codes "found") h)
    then check_named team (field_of (codes "finding_player") h) (field_of (codes "location") h)
    else []

abbrev pub hints_shown : ℕ → Items → List Check
hints_shown team no_items = []
hints_shown team (item h hs) = hint_shown team h ++ hints_shown team hs

abbrev pub value_shown : ℕ → Json → List Check
value_shown team (many hs) = hints_shown team hs
value_shown team null = []
value_shown team (flag b) = []
value_shown team (whole z) = []
value_shown team not_whole = []
value_shown team (numeral s) = []
value_shown team (words s) = []
value_shown team (members ms) = []

abbrev pub team_with : Option ℕ → Option ℕ → Option ℕ
team_with team None = None
team_with team (Some slot) = team

-- the team of a text that names a team and a slot, with an underscore between them
abbrev pub team_at : List ℕ → Option ℕ
team_at text =
    if nat_lt (position_or_len is_underscore text) (length text)
    then team_with (numbered (before_first is_underscore text))
    (numbered (after_first is_underscore text)) else None

-- the team whose slot's hints a key names
abbrev pub hints_team : List ℕ → Option ℕ
hints_team key =
    if bytes_eq (take 12 key) (codes "_read_hints_") then team_at (drop 12 key) else None

abbrev pub key_shown : Option ℕ → Json → List Check
key_shown None value = []
key_shown (Some team) value = value_shown team value

abbrev pub keys_shown : Members → List Check
keys_shown no_members = []
keys_shown (member key value ms) = key_shown (hints_team key) value ++ keys_shown ms

-- ---- messages

-- what a packet shows to a slot of a team
abbrev pub shown_by : ℕ → ℕ → ServerPacket → List Check
shown_by team slot (connected c) = checks_at team slot c.checked_locations
shown_by team slot (room_update locations points) = checks_at team slot locations
shown_by team slot (received_items index items) = at_locations (map (item_check team) items)
shown_by team slot (print p) = print_shown team p
shown_by team slot (retrieved r) = keys_shown r.keys
shown_by team slot (room_info info) = []
shown_by team slot (connection_refused errors) = []
shown_by team slot (location_info items) = []
shown_by team slot (data_package content) = []
shown_by team slot (invalid_packet bad) = []
shown_by team slot (set_reply r) = []
shown_by team slot (bounced b) = []

abbrev pub shown_among : ℕ → ℕ → List ServerPacket → List Check
shown_among team slot [] = []
shown_among team slot (p ∷ ps) = shown_by team slot p ++ shown_among team slot ps

-- Shown: by a message to a session that is this member
abbrev pub shown : Member → Message → List Check
shown m message = shown_among m.team m.slot message.packets
