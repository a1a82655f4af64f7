-- What is received by a text, as it is read: the items of its ReceivedItems packets.
use Rattle.std.specs.Prelude.{ℕ, ℤ, List, [], ◌∷◌, ◌++◌, Option, Some, None, bytes_eq, codes, nat_le, if◌then◌else◌}
use Rattle.mw_model.specs.Json.{Json, null, flag, whole, not_whole, numeral, words, many, members, Items, no_items, item, depth, field_of}
use Rattle.mw_json.specs.Reading.{reading, max_depth}

-- the whole number that a member is
abbrev pub number_in : Option Json → List ℤ
number_in None = []
number_in (Some null) = []
number_in (Some (flag b)) = []
number_in (Some (whole z)) = z ∷ []
number_in (Some not_whole) = []
number_in (Some (numeral s)) = []
number_in (Some (words s)) = []
number_in (Some (many js)) = []
number_in (Some (members ms)) = []

-- the id of a NetworkItem's item
abbrev pub id_in : Json → List ℤ
id_in j = number_in (field_of (codes "item") j)

abbrev pub ids_in : Items → List ℤ
ids_in no_items = []
ids_in (item j js) = id_in j ++ ids_in js

-- those of a list
abbrev pub listed_in : Option Json → List ℤ
listed_in None = []
listed_in (Some null) = []
listed_in (Some (flag b)) = []
listed_in (Some (whole z)) = []
listed_in (Some not_whole) = []
listed_in (Some (numeral s)) = []
listed_in (Some (words s)) = []
listed_in (Some (many js)) = ids_in js
listed_in (Some (members ms)) = []

-- those of a packet with this command
abbrev pub given_in : Option Json → Json → List ℤ
given_in None j = []
given_in (Some null) j = []
given_in (Some (flag b)) j = []
given_in (Some (whole z)) j = []
given_in (Some not_whole) j = []
given_in (Some (numeral s)) j = []
given_in (Some (words cmd)) j =
    if bytes_eq cmd (codes "ReceivedItems") then listed_in (field_of (codes "items") j) else []
given_in (Some (many js)) j = []
given_in (Some (members ms)) j = []

abbrev pub packet_items : Json → List ℤ
packet_items j = given_in (field_of (codes "cmd") j) j

abbrev pub packets_items : Items → List ℤ
packets_items no_items = []
packets_items (item j js) = packet_items j ++ packets_items js

-- those of a message, which is a list of packets
abbrev pub message_items : Json → List ℤ
message_items null = []
message_items (flag b) = []
message_items (whole z) = []
message_items not_whole = []
message_items (numeral s) = []
message_items (words s) = []
message_items (many js) = packets_items js
message_items (members ms) = []

-- those of a reading that isn't too deep
abbrev pub read_items : Option Json → List ℤ
read_items None = []
read_items (Some j) = if nat_le (depth j) max_depth then message_items j else []

-- those of a text
abbrev pub received_in : List ℕ → List ℤ
received_in text = read_items (reading text)
