-- The seed file of a seed: its members in ascending byte order, without white space.
use Rattle.std.specs.Prelude.{ℕ, pos, ◌==◌, List, [], ◌∷◌, ◌++◌, codes, map, if◌then◌else◌}
use Rattle.mw_model.specs.Json.{Json, whole, words, many, members, no_members, member}
use Rattle.mw_model.specs.Games.{game_json}
use Rattle.mw_model.specs.Trees.{items_of, text_json}
use Rattle.mw_model.specs.Seed.{Seed, Slot, Group, StartItem, Game, Held, RoomOptions, Spot}
use Rattle.mw_model.specs.Spelling.{spelling}
use Rattle.mw_json.specs.View.{members_of}

abbrev pub number_json : ℕ → Json
number_json n = whole (pos n)

-- the word of a permission, by its number in the protocol
abbrev pub permission_word : ℕ → List ℕ
permission_word n =
    if n == 0 then codes "disabled"
    else (if n == 1 then codes "enabled"
    else (if n == 2 then codes "goal" else (if n == 6 then codes "auto" else codes "auto_enabled")))

abbrev pub permission_json : ℕ → Json
permission_json n = words (permission_word n)

-- the settings of the room
abbrev pub server_json : RoomOptions → Json
server_json o =
    members (member (codes "collect") (permission_json o.collect)
    (member (codes "hint_cost") (number_json o.hint_cost)
    (member (codes "location_check_points") (number_json o.location_check_points)
    (member (codes "password") (words o.password)
    (member (codes "release") (permission_json o.release)
    (member (codes "remaining") (permission_json o.remaining) no_members))))))

-- a game's names under its name
abbrev pub game_member : Game → List ℕ × Json
game_member g = (g.name, game_json g)

abbrev pub games_json : List Game → Json
games_json gs = members (members_of (map game_member gs))

-- a starting item: the item, its class
abbrev pub start_json : StartItem → Json
start_json s = many (items_of (whole s.item ∷ number_json s.flags ∷ []))

abbrev pub slot_json : Slot → Json
slot_json s =
    members (member (codes "game") (words s.game)
    (member (codes "names") (many (items_of (map text_json s.names)))
    (member (codes "start") (many (items_of (map start_json s.start))) no_members)))

abbrev pub group_json : Group → Json
group_json g =
    members (member (codes "game") (words g.game)
    (member (codes "members") (many (items_of (map number_json g.members)))
    (member (codes "name") (words g.name) no_members)))

-- the second form is written exactly where there is a group
abbrev pub form_word : List Group → List ℕ
form_word [] = codes "mw-multidata-1"
form_word (g ∷ gs) = codes "mw-multidata-2"

-- the groups under their name, where there is one
abbrev pub groups_member : List Group → List (List ℕ × Json)
groups_member [] = []
groups_member (g ∷ gs) = (codes "groups", many (items_of (map group_json (g ∷ gs)))) ∷ []

-- a location: the slot that finds it, the location, the item there, who receives it, its class
abbrev pub held_json : Held → Json
held_json h =
    many (items_of
    (number_json h.slot ∷ whole h.location ∷ whole h.item ∷ number_json h.receiver
    ∷ number_json h.flags ∷ []))

-- a location in a sphere: its slot, its index
abbrev pub spot_json : Spot → Json
spot_json s = many (items_of (number_json s.slot ∷ number_json s.index ∷ []))

abbrev pub sphere_json : List Spot → Json
sphere_json spots = many (items_of (map spot_json spots))

-- the members before the locations
abbrev pub first_members : Seed → List (List ℕ × Json)
first_members seed =
    (codes "format", words (form_word seed.groups))
    ∷ (codes "games", games_json seed.games)
    ∷ groups_member seed.groups

-- the others
abbrev pub other_members : Seed → List (List ℕ × Json)
other_members seed =
    (codes "locations", many (items_of (map held_json seed.locations)))
    ∷ (codes "seed_name", words seed.seed_name)
    ∷ (codes "server", server_json seed.server)
    ∷ (codes "slots", many (items_of (map slot_json seed.slots)))
    ∷ (codes "spheres", many (items_of (map sphere_json seed.spheres)))
    ∷ (codes "teams", number_json seed.teams)
    ∷ []

abbrev pub seed_json : Seed → Json
seed_json seed = members (members_of (first_members seed ++ other_members seed))

-- the seed file's text
abbrev pub seed_text : Seed → List ℕ
seed_text seed = spelling (seed_json seed)
