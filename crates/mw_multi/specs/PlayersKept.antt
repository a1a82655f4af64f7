-- What a players file keeps.
use Rattle.std.specs.Prelude.{◌≡◌, ℕ, ◌+◌, ◌++◌, ◌≤◌, List, All, chars, flat_map, length, map, sum_by}
use Rattle.std.specs.List.Sorted.{IsStrictlyIncreasing}
use Rattle.mw_model.specs.Ascending.{NamesAscend}
use Rattle.mw_model.specs.Seed.{RoomOptions}
use Rattle.mw_multi.specs.Players.{StartEntry, Options, Player, ItemLink, Players}
use Rattle.mw_multi.specs.Names.{IsName, NamesDiffer}

-- who may ask what is left: disabled, enabled or goal
pub record RoomKept (o : RoomOptions) : Type 0 where
  pub password : length (chars o.password) ≤ 128
  pub hint_cost : o.hint_cost ≤ 1000
  pub location_check_points : o.location_check_points ≤ 1000000
  pub remaining : o.remaining ≤ 2

-- 1 to 256 of an item
pub record StartKept (s : StartEntry) : Type 0 where
  pub name : IsName 128 s.name
  pub low : 1 ≤ s.count
  pub high : s.count ≤ 256

abbrev pub start_count : StartEntry → ℕ
start_count s = s.count

abbrev pub start_name : StartEntry → List ℕ
start_name s = s.name

-- at most 256 items to begin with, in byte order of names
pub record OptionsKept (o : Options) : Type 0 where
  pub local_items : All (IsName 128) o.local_items
  pub non_local_items : All (IsName 128) o.non_local_items
  pub exclude_locations : All (IsName 128) o.exclude_locations
  pub priority_locations : All (IsName 128) o.priority_locations
  pub start_inventory : All StartKept o.start_inventory
  pub ascend : NamesAscend (map start_name o.start_inventory)
  pub together : sum_by start_count o.start_inventory ≤ 256

-- a name for each of so many teams
pub record PlayerKept (teams : ℕ) (p : Player) : Type 0 where
  pub count : length p.names ≡ teams
  pub names : All (IsName 16) p.names
  pub world : IsName 128 p.world
  pub options : OptionsKept p.options

abbrev pub player_names : Player → List (List ℕ)
player_names p = p.names

-- the number of one of so many slots
pub record IsSlotNumber (slots : ℕ) (number : ℕ) : Type 0 where
  pub low : 1 ≤ number
  pub high : number ≤ slots

-- at least two of so many slots share items
pub record ItemLinkKept (slots : ℕ) (l : ItemLink) : Type 0 where
  pub name : IsName 16 l.name
  pub several : 2 ≤ length l.members
  pub ascend : IsStrictlyIncreasing l.members
  pub members : All (IsSlotNumber slots) l.members
  pub items : All (IsName 128) l.items

abbrev pub link_name : ItemLink → List ℕ
link_name l = l.name

-- the names of all players, over all teams and slots, and of all links
abbrev pub all_names : Players → List (List ℕ)
all_names p = flat_map player_names p.players ++ map link_name p.links

-- no two names are equal
pub record IsPlayers (p : Players) : Type 0 where
  pub some_teams : 1 ≤ p.teams
  pub few_teams : p.teams ≤ 8
  pub room : RoomKept p.room
  pub some_players : 1 ≤ length p.players
  pub few_players : length p.players ≤ 1024
  pub each : All (PlayerKept p.teams) p.players
  pub few_receivers : length p.players + length p.links ≤ 1024
  pub links : All (ItemLinkKept (length p.players)) p.links
  pub differ : NamesDiffer (all_names p)
