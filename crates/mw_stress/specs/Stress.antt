-- The world that `stress` plays, and its players, as plain data.
use Rattle.std.specs.Prelude.{ℕ, zero, suc, pos, ◌+◌, ◌/◌, ◌≤◌, List, [], ◌∷◌, ◌++◌, Some, None, nat_eq, codes, decimal, if◌then◌else◌}
use Rattle.mw_model.specs.Seed.{RoomOptions}
use Rattle.mw_rules.specs.Rule.{always, has, has_all}
use Rattle.mw_multi.specs.World.{Entrance, Location, Item, PoolEntry, World}
use Rattle.mw_multi.specs.Players.{Options, Player, Players}
use Rattle.mw_multi.specs.declared.access.Access.TheVariants.{Items}
use Rattle.mw_multi.specs.declared.item.Class.{Class}
use Rattle.mw_multi.specs.declared.item.Class.TheVariants.{Progression, Useful, Filler, Trap}
use Rattle.mw_multi.specs.declared.location.LocKind.TheVariants.{Default}

-- from 1 to 64 players
pub record IsCrowd (many : ℕ) : Type 0 where
  pub low : 1 ≤ many
  pub high : many ≤ 64

-- ---- the rows of the tables

-- the name of a region; the first one is Menu
abbrev pub region : ℕ → List ℕ
region i = if nat_eq i 0 then codes "Menu" else codes "R" ++ decimal i

-- the regions below this one
abbrev pub regions_below : ℕ → List (List ℕ)
regions_below zero = []
regions_below (suc i) = regions_below i ++ region i ∷ []

-- the entrance from this region to the next, which takes that one's key
abbrev pub entrance : ℕ → Entrance
entrance i = record {
  name = codes "E" ++ decimal (i + 1);
  from = i;
  to = i + 1;
  rule = has i 1;
}

-- the entrances from the regions below this one
abbrev pub entrances_below : ℕ → List Entrance
entrances_below zero = []
entrances_below (suc i) = entrances_below i ++ entrance i ∷ []

-- the spot behind so many, open to whoever is in its region: six spots stand in each
abbrev pub spot : ℕ → Location
spot i = record {
  name = codes "Spot " ++ decimal (i + 1);
  id = Some (pos (i + 1));
  region = i / 6;
  kind = Default;
  rule = always;
  event = None;
}

-- so many spots
abbrev pub spots_below : ℕ → List Location
spots_below zero = []
spots_below (suc i) = spots_below i ++ spot i ∷ []

abbrev pub item : List ℕ → ℕ → Class → Item
item name id class = record { name = name; id = Some (pos id); class = class }

-- the key behind so many
abbrev pub key : ℕ → Item
key i = item (codes "Key " ++ decimal (i + 1)) (i + 1) Progression

-- so many keys
abbrev pub keys_below : ℕ → List Item
keys_below zero = []
keys_below (suc i) = keys_below i ++ key i ∷ []

-- what is found beside the keys
abbrev pub others : List Item
others =
    item (codes "Gem") 10 Useful ∷ item (codes "Snare") 11 Trap ∷ item (codes "Coin") 12 Filler ∷ []

abbrev pub copies : ℕ → ℕ → PoolEntry
copies i count = record { item = i; count = count }

-- one copy of each of so many items
abbrev pub singles_below : ℕ → List PoolEntry
singles_below zero = []
singles_below (suc i) = singles_below i ++ copies i 1 ∷ []

-- the items below this one
abbrev pub items_below : ℕ → List ℕ
items_below zero = []
items_below (suc i) = items_below i ++ i ∷ []

-- ---- the tables

-- ten regions in a row, each behind a key of its own, with six spots each; nine keys, six gems and
-- three snares; all keys are wanted
abbrev pub world : World
world = record {
  game = codes "Stress";
  origin = 0;
  regions = regions_below 10;
  entrances = entrances_below 9;
  locations = spots_below 60;
  items = keys_below 9 ++ others;
  pool = singles_below 9 ++ copies 9 6 ∷ copies 10 3 ∷ [];
  filler = 11;
  goal = has_all (items_below 9);
}

-- the world's file, which isn't read
abbrev pub world_file : List ℕ
world_file = codes "stress.json"

-- the usual settings, but that nothing is released or collected
abbrev pub room : RoomOptions
room = record {
  password = [];
  hint_cost = 10;
  location_check_points = 1;
  release = 0;
  collect = 0;
  remaining = 2;
}

abbrev pub no_wishes : Options
no_wishes = record {
  local_items = [];
  non_local_items = [];
  exclude_locations = [];
  priority_locations = [];
  start_inventory = [];
  accessibility = Items;
}

-- the name of the player of a slot
abbrev pub player_name : ℕ → List ℕ
player_name slot = codes "P" ++ decimal slot

-- the player behind so many
abbrev pub player : ℕ → Player
player i = record { names = player_name (i + 1) ∷ []; world = world_file; options = no_wishes }

-- so many players
abbrev pub players_below : ℕ → List Player
players_below zero = []
players_below (suc i) = players_below i ++ player i ∷ []

-- one team of so many, who share nothing
abbrev pub players : ℕ → Players
players many = record { teams = 1; room = room; players = players_below many; links = [] }
