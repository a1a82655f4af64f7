-- The tables of `Clockwork` and of its player, as they are written.
use Rattle.std.specs.Prelude.{ℕ, zero, suc, pos, ◌+◌, ◌*◌, List, [], ◌∷◌, ◌++◌, true, codes, decimal}
use Rattle.mw_model.specs.Json.{Json, flag, whole, words, many, members, no_members, member}
use Rattle.mw_model.specs.Trees.{items_of}
use Rattle.mw_model.specs.Spelling.{spelling}
use Rattle.mw_clock.specs.Clockwork.{floor}

abbrev pub list_json : List Json → Json
list_json js = many (items_of js)

-- ---- rows

abbrev pub floor_json : ℕ → Json
floor_json i = words (floor i)

-- the floors below this one
abbrev pub floors_json : ℕ → List Json
floors_json zero = []
floors_json (suc i) = floors_json i ++ floor_json i ∷ []

-- the rule that takes so many gears
abbrev pub gears_json : ℕ → Json
gears_json count =
    members (member (codes "count") (whole (pos count))
    (member (codes "has") (words (codes "Gear")) no_members))

-- the stair from this floor to the next
abbrev pub stair_json : ℕ → Json
stair_json i =
    members (member (codes "from") (words (floor i))
    (member (codes "name") (words (codes "Stair " ++ decimal (i + 1)))
    (member (codes "rule") (gears_json (i + 1))
    (member (codes "to") (words (floor (i + 1))) no_members))))

-- the stairs from the floors below this one
abbrev pub stairs_json : ℕ → List Json
stairs_json zero = []
stairs_json (suc i) = stairs_json i ++ stair_json i ∷ []

-- a location on a floor
abbrev pub location_json : List ℕ → ℕ → ℕ → Json
location_json name id region =
    members (member (codes "id") (whole (pos id))
    (member (codes "name") (words name)
    (member (codes "region") (words (floor region))
    (member (codes "rule") (flag true) no_members))))

-- the box with this number on a floor
abbrev pub box_json : ℕ → ℕ → Json
box_json id region = location_json (codes "Box " ++ decimal id) id region

-- the two boxes on each floor below this one
abbrev pub boxes_json : ℕ → List Json
boxes_json zero = []
boxes_json (suc i) = boxes_json i ++ box_json (2 * i + 1) i ∷ box_json (2 * i + 2) i ∷ []

abbrev pub bell_json : ℕ → Json
bell_json gears = location_json (codes "Bell") (2 * gears + 1) gears

abbrev pub item_json : List ℕ → ℕ → List ℕ → Json
item_json name id class =
    members (member (codes "class") (words class)
    (member (codes "id") (whole (pos id)) (member (codes "name") (words name) no_members)))

-- the gear and the oil
abbrev pub items_json : Json
items_json =
    list_json (item_json (codes "Gear") 1 (codes "progression")
    ∷ item_json (codes "Oil") 2 (codes "filler") ∷ [])

-- so many gears
abbrev pub pool_json : ℕ → Json
pool_json gears =
    members (member (codes "count") (whole (pos gears))
    (member (codes "item") (words (codes "Gear")) no_members))

abbrev pub bell_place_json : Json
bell_place_json = members (member (codes "location") (words (codes "Bell")) no_members)

-- the bell can be reached
abbrev pub goal_json : Json
goal_json = members (member (codes "can_reach") bell_place_json no_members)

-- ---- files

-- the world file of so many gears
abbrev pub world_json : ℕ → Json
world_json gears =
    members (member (codes "entrances") (list_json (stairs_json gears))
    (member (codes "filler") (words (codes "Oil"))
    (member (codes "format") (words (codes "mw-world-1"))
    (member (codes "game") (words (codes "Clockwork"))
    (member (codes "goal") goal_json
    (member (codes "items") items_json
    (member (codes "locations") (list_json (boxes_json gears ++ bell_json gears ∷ []))
    (member (codes "pool") (list_json (pool_json gears ∷ []))
    (member (codes "regions") (list_json (floors_json (gears + 1))) no_members)))))))))

-- the player, whose world is in this file
abbrev pub player_json : List ℕ → Json
player_json file =
    members (member (codes "names") (list_json (words (codes "Player") ∷ []))
    (member (codes "world") (words file) no_members))

-- the players file that names this world file
abbrev pub players_json : List ℕ → Json
players_json file =
    members (member (codes "format") (words (codes "mw-players-1"))
    (member (codes "players") (list_json (player_json file ∷ [])) no_members))

-- ---- texts

-- the text of the world file of so many gears
unfoldable pub world_text : ℕ → List ℕ
world_text gears = spelling (world_json gears)

-- the text of the players file that names this world file
unfoldable pub players_text : List ℕ → List ℕ
players_text file = spelling (players_json file)
