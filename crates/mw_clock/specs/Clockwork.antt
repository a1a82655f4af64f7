-- The world `Clockwork` of so many gears, its player and their joint, as plain data.
use Rattle.std.specs.Prelude.{ℕ, zero, suc, pos, ◌+◌, ◌*◌, ◌≤◌, List, [], ◌∷◌, ◌++◌, Some, None, nat_eq, codes, decimal, if◌then◌else◌}
use Rattle.mw_rules.specs.Rule.{Rule, always, has, can_reach}
use Rattle.mw_multi.specs.World.{Entrance, Location, Item, World}
use Rattle.mw_multi.specs.Players.{Player, Players}
use Rattle.mw_multi.specs.Steps.{world_rules}
use Rattle.mw_multi.specs.declared.item.Class.TheVariants.{Progression, Filler}
use Rattle.mw_multi.specs.declared.location.LocKind.TheVariants.{Default}
use Rattle.mw_tables.specs.PlayersShape.{usual_room, no_options}

-- from 1 to 20 gears
pub record IsSize (gears : ℕ) : Type 0 where
  pub low : 1 ≤ gears
  pub high : gears ≤ 20

-- ---- the rows of the tables

-- the name of a floor; the lowest one is Menu
abbrev pub floor : ℕ → List ℕ
floor i = if nat_eq i 0 then codes "Menu" else codes "Floor " ++ decimal i

-- the floors below this one
abbrev pub floors_below : ℕ → List (List ℕ)
floors_below zero = []
floors_below (suc i) = floors_below i ++ floor i ∷ []

-- the stair from this floor to the next, which takes as many gears as that one's number
abbrev pub stair : ℕ → Entrance
stair i = record {
  name = codes "Stair " ++ decimal (i + 1);
  from = i;
  to = i + 1;
  rule = has 0 (i + 1);
}

-- the stairs from the floors below this one
abbrev pub stairs_below : ℕ → List Entrance
stairs_below zero = []
stairs_below (suc i) = stairs_below i ++ stair i ∷ []

-- a location on a floor, which is open to whoever is there
abbrev pub open_location : List ℕ → ℕ → ℕ → Location
open_location name id region = record {
  name = name;
  id = Some (pos id);
  region = region;
  kind = Default;
  rule = always;
  event = None;
}

-- the box with this number on a floor
abbrev pub box : ℕ → ℕ → Location
box id region = open_location (codes "Box " ++ decimal id) id region

-- the two boxes on each floor below this one
abbrev pub boxes_below : ℕ → List Location
boxes_below zero = []
boxes_below (suc i) = boxes_below i ++ box (2 * i + 1) i ∷ box (2 * i + 2) i ∷ []

-- the bell on the highest floor
abbrev pub bell : ℕ → Location
bell gears = open_location (codes "Bell") (2 * gears + 1) gears

abbrev pub gear : Item
gear = record { name = codes "Gear"; id = Some (pos 1); class = Progression }

abbrev pub oil : Item
oil = record { name = codes "Oil"; id = Some (pos 2); class = Filler }

-- ---- the tables

-- Clockwork: so many stairs and gears, two boxes on each floor but the highest, where the bell is
abbrev pub clockwork : ℕ → World
clockwork gears = record {
  game = codes "Clockwork";
  origin = 0;
  regions = floors_below (gears + 1);
  entrances = stairs_below gears;
  locations = boxes_below gears ++ bell gears ∷ [];
  items = gear ∷ oil ∷ [];
  pool = record { item = 0; count = gears } ∷ [];
  filler = 1;
  goal = can_reach (3 * gears + 1);
}

-- its rules by number: those of the stairs, those of the locations, the goal
abbrev pub clock_rules : ℕ → List Rule
clock_rules gears = world_rules (clockwork gears)

-- one player with no wishes, whose world is in the file of this name
abbrev pub player : List ℕ → Player
player file = record { names = codes "Player" ∷ []; world = file; options = no_options }

-- one team in the usual room, with no links
abbrev pub players : List ℕ → Players
players file = record { teams = 1; room = usual_room; players = player file ∷ []; links = [] }
