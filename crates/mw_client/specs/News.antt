-- What packets of a room tell a client, after Archipelago's network protocol. Of each packet the members are judged that a client uses.
use Rattle.std.specs.Prelude.{◌^◌, ℕ, ℤ, pos, negsuc, List, Bool, Result, Ok, Err, bytes_eq, codes, nat_lt, if◌then◌else◌}
use Rattle.mw_model.specs.Items.{NetItem}
use Rattle.mw_model.specs.Json.{Json, null, flag, whole, not_whole, numeral, words, many, members, Members}
use Rattle.mw_json.specs.Grammar.{Breach, ◌>>=◌, refused, number_at, text_at, list_at, object_at, field_at}
use Rattle.mw_json.specs.Readers.{each_from, list_of_at}
use Rattle.mw_json.specs.declared.refusal.Kind.TheVariants.{WrongKind}

pub data News : Type 0 where
  -- RoomInfo: the room greets the session
  greeted : News
  -- Connected: the session plays its slot
  joined : News
  -- ConnectionRefused, with its errors
  turned_away : List (List ℕ) → News
  -- ReceivedItems: the place of the first item in the slot's list, and the items from there on
  received : ℕ → List NetItem → News
  -- another packet, or none
  nothing : News

-- ---- values

-- a whole number from -2^63 to 2^63 - 1
abbrev pub fits_signed : ℤ → Bool
fits_signed (pos n) = nat_lt n (2 ^ 63)
fits_signed (negsuc n) = nat_lt n (2 ^ 63)

abbrev pub signed_at : Json → Result ℤ Breach
signed_at (whole z) = if fits_signed z then Ok z else refused WrongKind
signed_at null = refused WrongKind
signed_at (flag b) = refused WrongKind
signed_at not_whole = refused WrongKind
signed_at (numeral s) = refused WrongKind
signed_at (words s) = refused WrongKind
signed_at (many js) = refused WrongKind
signed_at (members ms) = refused WrongKind

-- the class of an item
unfoldable pub item_class_at : Json → Result (List ℕ) Breach
item_class_at j = do
  class ← text_at j
  if bytes_eq class (codes "NetworkItem") then Ok class else refused WrongKind

-- an item's number, which isn't negative
unfoldable pub item_number_at : Json → Result ℤ Breach
item_number_at j = do
  n ← number_at 0 9223372036854775807 j
  Ok (pos n)

-- each number is in its range
unfoldable pub net_item_at : Json → Result NetItem Breach
net_item_at j = do
  ms ← object_at j
  class ← field_at (codes "class") item_class_at ms
  item ← field_at (codes "item") item_number_at ms
  location ← field_at (codes "location") signed_at ms
  player ← field_at (codes "player") (number_at 0 65535) ms
  flags ← field_at (codes "flags") (number_at 0 255) ms
  Ok record { item = item; location = location; player = player; flags = flags }

-- fewer than 2^32
unfoldable pub net_items_at : Json → Result (List NetItem) Breach
net_items_at j = list_of_at 4294967295 net_item_at j

unfoldable pub errors_at : Json → Result (List (List ℕ)) Breach
errors_at j = do
  js ← list_at j
  each_from text_at 0 js

-- ---- packets

unfoldable pub turned_away_at : Members → Result News Breach
turned_away_at ms = do
  errors ← field_at (codes "errors") errors_at ms
  Ok (turned_away errors)

unfoldable pub received_at : Members → Result News Breach
received_at ms = do
  index ← field_at (codes "index") (number_at 0 18446744073709551615) ms
  items ← field_at (codes "items") net_items_at ms
  Ok (received index items)

-- a packet whose members aren't so tells nothing
abbrev pub or_nothing : Result News Breach → News
or_nothing (Ok news) = news
or_nothing (Err breach) = nothing

-- an object's members, by its command
abbrev pub news_named : List ℕ → Members → News
news_named cmd ms =
    if bytes_eq cmd (codes "RoomInfo") then greeted
    else (if bytes_eq cmd (codes "Connected") then joined
    else (if bytes_eq cmd (codes "ConnectionRefused") then or_nothing (turned_away_at ms)
    else (if bytes_eq cmd (codes "ReceivedItems") then or_nothing (received_at ms) else nothing)))
