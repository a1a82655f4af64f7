-- The shape of a world file: its tables by kinds and ranges alone, names as they are written, or the first breach.
use Rattle.std.specs.Prelude.{ℕ, ℤ, ◌||◌, is_some, nat_le, sum_by, List, Option, Some, None, Result, Ok, bytes_eq, codes, if◌then◌else◌}
use Rattle.mw_model.specs.Json.{Json, Members}
use Rattle.mw_json.specs.Grammar.{Breach, ◌>>=◌, refused, other_kind, number_at, text_at, name_at, list_at, object_at, field_at}
use Rattle.mw_json.specs.Parts.{id_at, there, null_or_at}
use Rattle.mw_json.specs.Readers.{each_from, list_of_at, field_or_at}
use Rattle.mw_json.specs.declared.refusal.Kind.TheVariants.{WrongKind, TooMany, OtherFormat}
use Rattle.mw_multi.specs.World.{Item}
use Rattle.mw_multi.specs.RulesKept.{is_progression}
use Rattle.mw_multi.specs.declared.item.Class.{Class}
use Rattle.mw_multi.specs.declared.item.Class.TheVariants.{Progression, Useful, Filler, Trap}
use Rattle.mw_multi.specs.declared.location.LocKind.{LocKind}
use Rattle.mw_multi.specs.declared.location.LocKind.TheVariants.{Default, Priority, Excluded}
use Rattle.mw_tables.specs.Raw.{RawEntrance, RawLocation, RawEntry, RawWorld}
use Rattle.mw_tables.specs.RuleShape.{rule_at}
use Rattle.mw_tables.specs.declared.raw_parts.WorldParts.{WorldParts}
use Rattle.mw_tables.specs.declared.raw_parts.WorldRows.{WorldRows}

-- the one format
abbrev pub format_of : List ℕ → List ℕ → Result (Unit {0}) Breach
format_of format s = if bytes_eq s format then Ok tt else refused OtherFormat

unfoldable pub format_at : List ℕ → Json → Result (Unit {0}) Breach
format_at format j = do
  s ← text_at j
  format_of format s

abbrev pub format_in : List ℕ → Members → Result (Unit {0}) Breach
format_in format ms = field_at (codes "format") (format_at format) ms

-- ---- items

abbrev pub class_of : List ℕ → Result Class Breach
class_of s =
    if bytes_eq s (codes "progression") then Ok Progression
    else (if bytes_eq s (codes "useful") then Ok Useful
    else (if bytes_eq s (codes "filler") then Ok Filler
    else (if bytes_eq s (codes "trap") then Ok Trap else refused WrongKind)))

unfoldable pub class_word_at : Json → Result Class Breach
class_word_at j = do
  s ← text_at j
  class_of s

-- an event is of class progression
abbrev pub class_fits : Option ℤ → Class → Result Class Breach
class_fits id class = if is_some id || is_progression class then Ok class else refused WrongKind

unfoldable pub class_at : Option ℤ → Json → Result Class Breach
class_at id j = do
  class ← class_word_at j
  class_fits id class

unfoldable pub item_at : Json → Result Item Breach
item_at j = do
  ms ← object_at j
  name ← field_at (codes "name") (name_at 128) ms
  id ← field_at (codes "id") (null_or_at id_at) ms
  class ← field_at (codes "class") (class_at id) ms
  Ok record { name = name; id = id; class = class }

-- ---- entrances

unfoldable pub entrance_at : Json → Result RawEntrance Breach
entrance_at j = do
  ms ← object_at j
  name ← field_at (codes "name") (name_at 128) ms
  from ← field_at (codes "from") (name_at 128) ms
  to ← field_at (codes "to") (name_at 128) ms
  rule ← field_at (codes "rule") rule_at ms
  Ok record { name = name; from = from; to = to; rule = rule }

-- ---- locations

abbrev pub kind_of : List ℕ → Result LocKind Breach
kind_of s =
    if bytes_eq s (codes "default") then Ok Default
    else (if bytes_eq s (codes "priority") then Ok Priority
    else (if bytes_eq s (codes "excluded") then Ok Excluded else refused WrongKind))

unfoldable pub kind_at : Json → Result LocKind Breach
kind_at j = do
  s ← text_at j
  kind_of s

-- the event's name where there is no id; else there is no such member
abbrev pub event_in : Option ℤ → Members → Result (Option (List ℕ)) Breach
event_in None ms = there (field_at (codes "event") (name_at 128) ms)
event_in (Some id) ms = field_or_at (codes "event") None other_kind ms

unfoldable pub location_at : Json → Result RawLocation Breach
location_at j = do
  ms ← object_at j
  name ← field_at (codes "name") (name_at 128) ms
  id ← field_at (codes "id") (null_or_at id_at) ms
  region ← field_at (codes "region") (name_at 128) ms
  kind ← field_or_at (codes "kind") Default kind_at ms
  rule ← field_at (codes "rule") rule_at ms
  event ← event_in id ms
  Ok record { name = name; id = id; region = region; kind = kind; rule = rule; event = event }

-- ---- the pool

unfoldable pub entry_at : Json → Result RawEntry Breach
entry_at j = do
  ms ← object_at j
  name ← field_at (codes "item") (name_at 128) ms
  count ← field_at (codes "count") (number_at 1 10000) ms
  Ok record { item = name; count = count }

abbrev pub entry_count : RawEntry → ℕ
entry_count p = p.count

-- at most 10,000 copies together
abbrev pub few_copies : List RawEntry → Result (List RawEntry) Breach
few_copies ps = if nat_le (sum_by entry_count ps) 10000 then Ok ps else refused TooMany

unfoldable pub pool_at : Json → Result (List RawEntry) Breach
pool_at j = do
  js ← list_at j
  ps ← each_from entry_at 0 js
  few_copies ps

-- ---- the whole

-- the game, the region where a player begins, the regions and the items
unfoldable pub parts_in : Members → Result WorldParts Breach
parts_in ms = do
  game ← field_at (codes "game") (name_at 128) ms
  origin ← field_or_at (codes "origin") (codes "Menu") (name_at 128) ms
  regions ← field_at (codes "regions") (list_of_at 5000 (name_at 128)) ms
  items ← field_at (codes "items") (list_of_at 10000 item_at) ms
  Ok record { game = game; origin = origin; regions = regions; items = items }

-- the entrances, the locations, the pool and the filler
unfoldable pub rows_in : Members → Result WorldRows Breach
rows_in ms = do
  entrances ← field_at (codes "entrances") (list_of_at 10000 entrance_at) ms
  locations ← field_at (codes "locations") (list_of_at 10000 location_at) ms
  pool ← field_at (codes "pool") pool_at ms
  filler ← field_at (codes "filler") (name_at 128) ms
  Ok record { entrances = entrances; locations = locations; pool = pool; filler = filler }

-- these, and then the goal
unfoldable pub world_shape_at : Json → Result RawWorld Breach
world_shape_at j = do
  ms ← object_at j
  format ← format_in (codes "mw-world-1") ms
  parts ← parts_in ms
  rows ← rows_in ms
  goal ← field_at (codes "goal") rule_at ms
  Ok record {
    game = parts.game;
    origin = parts.origin;
    regions = parts.regions;
    items = parts.items;
    entrances = rows.entrances;
    locations = rows.locations;
    pool = rows.pool;
    filler = rows.filler;
    goal = goal;
  }
