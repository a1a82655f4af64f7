-- The shape of a players file: its value by kinds and ranges alone, or the first breach of them.
use Rattle.std.specs.Prelude.{ℕ, ◌-◌, nat_le, sum_by, List, [], Bool, true, false, Result, Ok, bytes_eq, codes, length, if◌then◌else◌}
use Rattle.mw_model.specs.Json.{Json, Items as JsonItems, Members}
use Rattle.mw_model.specs.Seed.{RoomOptions}
use Rattle.mw_json.specs.Grammar.{Breach, ◌>>=◌, refused, number_at, text_at, name_of, name_at, list_at, items_length, list_up_to, object_at, field_at}
use Rattle.mw_json.specs.Parts.{not_empty, list_of_length}
use Rattle.mw_json.specs.Readers.{each_from, list_of_at, field_or_at, each_member_at}
use Rattle.mw_json.specs.Settings.{password_at, permission_at, remaining_at}
use Rattle.mw_json.specs.declared.refusal.Kind.TheVariants.{WrongKind, TooMany, OtherFormat}
use Rattle.mw_multi.specs.Players.{StartEntry, Options, Player, ItemLink, Players}
use Rattle.mw_multi.specs.declared.access.Access.{Access}
use Rattle.mw_multi.specs.declared.access.Access.TheVariants.{Full, Items, Minimal}
use Rattle.mw_multi.specs.PlayersKept.{start_count}

-- ---- the room

-- each setting may be absent
unfoldable pub room_at : Json → Result RoomOptions Breach
room_at j = do
  ms ← object_at j
  password ← field_or_at (codes "password") [] password_at ms
  hint_cost ← field_or_at (codes "hint_cost") 10 (number_at 0 1000) ms
  points ← field_or_at (codes "location_check_points") 1 (number_at 0 1000000) ms
  release ← field_or_at (codes "release") 6 permission_at ms
  collect ← field_or_at (codes "collect") 6 permission_at ms
  remaining ← field_or_at (codes "remaining") 2 remaining_at ms
  Ok record {
    password = password;
    hint_cost = hint_cost;
    location_check_points = points;
    release = release;
    collect = collect;
    remaining = remaining;
  }

-- no password, hints at a tenth, a point a location, release and collect by themselves, remaining at the goal
abbrev pub usual_room : RoomOptions
usual_room =
    record {
      password = [];
      hint_cost = 10;
      location_check_points = 1;
      release = 6;
      collect = 6;
      remaining = 2;
    }

-- ---- options

-- names as they are written, however often
unfoldable pub wishes_at : Json → Result (List (List ℕ)) Breach
wishes_at j = do
  js ← list_at j
  each_from (name_at 128) 0 js

-- the name, then so many
unfoldable pub start_entry_at : List ℕ → Json → Result StartEntry Breach
start_entry_at name j = do
  named ← name_of 128 name
  count ← number_at 1 256 j
  Ok record { name = named; count = count }

-- at most 256 together
abbrev pub few_to_start : List StartEntry → Result (List StartEntry) Breach
few_to_start ss = if nat_le (sum_by start_count ss) 256 then Ok ss else refused TooMany

unfoldable pub start_inventory_at : Json → Result (List StartEntry) Breach
start_inventory_at j = do
  ms ← object_at j
  ss ← each_member_at start_entry_at ms
  few_to_start ss

-- how much has to be reachable
abbrev pub access_of : List ℕ → Result Access Breach
access_of s =
    if bytes_eq s (codes "full") then Ok Full
    else (if bytes_eq s (codes "items") then Ok Items
    else (if bytes_eq s (codes "minimal") then Ok Minimal else refused WrongKind))

unfoldable pub access_at : Json → Result Access Breach
access_at j = do
  s ← text_at j
  access_of s

-- what stands under accessibility in the second form; in the first form it is what it is where it's
-- absent
abbrev pub access_in : Bool → Members → Result Access Breach
access_in false ms = Ok Items
access_in true ms = field_or_at (codes "accessibility") Items access_at ms

-- each option may be absent
unfoldable pub options_at : Bool → Json → Result Options Breach
options_at second j = do
  ms ← object_at j
  local ← field_or_at (codes "local_items") [] wishes_at ms
  non_local ← field_or_at (codes "non_local_items") [] wishes_at ms
  exclude ← field_or_at (codes "exclude_locations") [] wishes_at ms
  priority ← field_or_at (codes "priority_locations") [] wishes_at ms
  start ← field_or_at (codes "start_inventory") [] start_inventory_at ms
  access ← access_in second ms
  Ok record {
    local_items = local;
    non_local_items = non_local;
    exclude_locations = exclude;
    priority_locations = priority;
    start_inventory = start;
    accessibility = access;
  }

abbrev pub no_options : Options
no_options =
    record {
      local_items = [];
      non_local_items = [];
      exclude_locations = [];
      priority_locations = [];
      start_inventory = [];
      accessibility = Items;
    }

-- ---- players

-- a name for each team
unfoldable pub team_names_at : ℕ → Json → Result (List (List ℕ)) Breach
team_names_at teams j = do
  js ← list_of_length teams j
  each_from (name_at 16) 0 js

unfoldable pub player_at : Bool → ℕ → Json → Result Player Breach
player_at second teams j = do
  ms ← object_at j
  names ← field_at (codes "names") (team_names_at teams) ms
  world ← field_at (codes "world") (name_at 128) ms
  options ← field_or_at (codes "options") no_options (options_at second) ms
  Ok record { names = names; world = world; options = options }

-- 1 to 1,024 players
unfoldable pub player_list_at : Bool → ℕ → Json → Result (List Player) Breach
player_list_at second teams j = do
  js ← list_up_to 1024 j
  some ← not_empty js
  each_from (player_at second teams) 0 some

-- ---- links

-- the number of a slot, 1 to 1,024
abbrev pub slot_number_at : Json → Result ℕ Breach
slot_number_at j = number_at 1 1024 j

-- at least two
abbrev pub several_of : JsonItems → Result JsonItems Breach
several_of js = if nat_le 2 (items_length js) then Ok js else refused WrongKind

unfoldable pub link_members_at : Json → Result (List ℕ) Breach
link_members_at j = do
  js ← list_at j
  several ← several_of js
  each_from slot_number_at 0 several

unfoldable pub link_at : Json → Result ItemLink Breach
link_at j = do
  ms ← object_at j
  name ← field_at (codes "name") (name_at 16) ms
  numbers ← field_at (codes "members") link_members_at ms
  items ← field_at (codes "items") wishes_at ms
  Ok record { name = name; members = numbers; items = items }

-- what stands under links in the second form, beside so many players, together at most 1,024; the
-- first form has no links
abbrev pub links_in : Bool → ℕ → Members → Result (List ItemLink) Breach
links_in false players ms = Ok []
links_in true players ms = field_or_at (codes "links") [] (list_of_at (1024 - players) link_at) ms

-- ---- the whole

-- whether it is the second form
abbrev pub form_of : List ℕ → Result Bool Breach
form_of s =
    if bytes_eq s (codes "mw-players-1") then Ok false
    else (if bytes_eq s (codes "mw-players-2") then Ok true else refused OtherFormat)

unfoldable pub form_at : Json → Result Bool Breach
form_at j = do
  s ← text_at j
  form_of s

unfoldable pub players_shape_at : Json → Result Players Breach
players_shape_at j = do
  ms ← object_at j
  second ← field_at (codes "format") form_at ms
  teams ← field_or_at (codes "teams") 1 (number_at 1 8) ms
  room ← field_or_at (codes "room") usual_room room_at ms
  players ← field_at (codes "players") (player_list_at second teams) ms
  links ← links_in second (length players) ms
  Ok record { teams = teams; room = room; players = players; links = links }
