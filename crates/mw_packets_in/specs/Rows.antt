-- The packets of clients, after Archipelago's network protocol: the members of each, in the order in which they are judged.
use Rattle.std.specs.Prelude.{pos, List, None, Result, Ok, false, codes}
use Rattle.mw_model.specs.Json.{Json, whole, Members}
use Rattle.mw_model.specs.Sets.{Operation}
use Rattle.mw_protocol.specs.Further.{others}
use Rattle.mw_protocol.specs.Packets.{Packet, Version, connect, connect_update, location_checks, location_scouts, update_hint, status_update, say, get_data_package, bounce, get, change, set_notify}
use Rattle.mw_json.specs.Grammar.{Breach, ◌>>=◌, number_at, text_at, list_at, object_at, field_at}
use Rattle.mw_json.specs.Parts.{null_or_at, field_if_at}
use Rattle.mw_json.specs.Readers.{each_from, field_or_at}
use Rattle.mw_json.specs.Sets.{set_names}
use Rattle.mw_packets_in.specs.Fields.{whole_at, flag_at, any_at, mask_at, hint_status_at, client_status_at, texts_at, wholes_at}
use Rattle.mw_packets_in.specs.Kept.{bounce_names, get_names}

-- ---- a session

unfoldable pub version_at : Json → Result Version Breach
version_at j = do
  ms ← object_at j
  major ← field_at (codes "major") whole_at ms
  minor ← field_at (codes "minor") whole_at ms
  build ← field_at (codes "build") whole_at ms
  Ok record { major = major; minor = minor; build = build }

-- the password, the game and the items that are handled may be null or absent
unfoldable pub connect_at : Members → Result Packet Breach
connect_at ms = do
  name ← field_at (codes "name") text_at ms
  password ← field_or_at (codes "password") None (null_or_at text_at) ms
  game ← field_or_at (codes "game") None (null_or_at text_at) ms
  version ← field_at (codes "version") version_at ms
  items_handling ← field_or_at (codes "items_handling") None (null_or_at whole_at) ms
  tags ← field_if_at (codes "tags") texts_at ms
  Ok (connect record {
    name = name;
    password = password;
    game = game;
    version = version;
    items_handling = items_handling;
    tags = tags;
  })

unfoldable pub connect_update_at : Members → Result Packet Breach
connect_update_at ms = do
  items_handling ← field_if_at (codes "items_handling") mask_at ms
  tags ← field_if_at (codes "tags") texts_at ms
  Ok (connect_update record { items_handling = items_handling; tags = tags })

unfoldable pub say_at : Members → Result Packet Breach
say_at ms = do
  text ← field_at (codes "text") text_at ms
  Ok (say text)

unfoldable pub get_data_package_at : Members → Result Packet Breach
get_data_package_at ms = do
  games ← field_if_at (codes "games") texts_at ms
  Ok (get_data_package games)

-- ---- locations, hints and statuses

unfoldable pub checks_at : Members → Result Packet Breach
checks_at ms = do
  locations ← field_at (codes "locations") wholes_at ms
  Ok (location_checks locations)

unfoldable pub scouts_at : Members → Result Packet Breach
scouts_at ms = do
  locations ← field_at (codes "locations") wholes_at ms
  create_as_hint ← field_or_at (codes "create_as_hint") 0 (number_at 0 2) ms
  Ok (location_scouts locations create_as_hint)

unfoldable pub update_hint_at : Members → Result Packet Breach
update_hint_at ms = do
  player ← field_at (codes "player") whole_at ms
  location ← field_at (codes "location") whole_at ms
  status ← field_if_at (codes "status") hint_status_at ms
  Ok (update_hint record { player = player; location = location; status = status })

unfoldable pub status_update_at : Members → Result Packet Breach
status_update_at ms = do
  status ← field_at (codes "status") client_status_at ms
  Ok (status_update status)

-- ---- messages between clients, and the data storage

unfoldable pub bounce_at : Members → Result Packet Breach
bounce_at ms = do
  games ← field_if_at (codes "games") texts_at ms
  tags ← field_if_at (codes "tags") texts_at ms
  slots ← field_if_at (codes "slots") wholes_at ms
  Ok (bounce record {
    games = games;
    tags = tags;
    slots = slots;
    further = others bounce_names ms;
  })

unfoldable pub get_at : Members → Result Packet Breach
get_at ms = do
  keys ← field_at (codes "keys") texts_at ms
  Ok (get keys (others get_names ms))

unfoldable pub operation_at : Json → Result Operation Breach
operation_at j = do
  ms ← object_at j
  name ← field_at (codes "operation") text_at ms
  value ← field_at (codes "value") any_at ms
  Ok record { name = name; value = value }

unfoldable pub operations_at : Json → Result (List Operation) Breach
operations_at j = do
  js ← list_at j
  each_from operation_at 0 js

-- the default is 0
unfoldable pub set_at : Members → Result Packet Breach
set_at ms = do
  key ← field_at (codes "key") text_at ms
  fallback ← field_or_at (codes "default") (whole (pos 0)) any_at ms
  want_reply ← field_or_at (codes "want_reply") false flag_at ms
  operations ← field_at (codes "operations") operations_at ms
  Ok (change record {
    key = key;
    fallback = fallback;
    want_reply = want_reply;
    operations = operations;
    further = others set_names ms;
  })

unfoldable pub set_notify_at : Members → Result Packet Breach
set_notify_at ms = do
  keys ← field_at (codes "keys") texts_at ms
  Ok (set_notify keys)
