-- The tables of `stress` as their files would have them.
use Rattle.std.proofs.Common.{ℕ, zero, suc, pos, ◌+◌, ◌/◌, List, [], ◌∷◌, ◌++◌, true, codes, decimal}
use Rattle.mw_model.specs.Json.{Json, flag, whole, words, many, members, no_members, member}
use Rattle.mw_model.specs.Trees.{items_of}
use Rattle.mw_stress.specs.Stress.{region, player_name, world_file}

abbrev list_json : List Json → Json
list_json js = many (items_of js)

abbrev regions_json : ℕ → List Json
regions_json zero = []
regions_json (suc i) = regions_json i ++ words (region i) ∷ []

abbrev key_name : ℕ → Json
key_name i = words (codes "Key " ++ decimal (i + 1))

abbrev key_rule : ℕ → Json
key_rule i = members (member (codes "has") (key_name i) no_members)

abbrev entrance_json : ℕ → Json
entrance_json i =
    members (member (codes "from") (words (region i))
    (member (codes "name") (words (codes "E" ++ decimal (i + 1)))
    (member (codes "rule") (key_rule i)
    (member (codes "to") (words (region (i + 1))) no_members))))

abbrev entrances_json : ℕ → List Json
entrances_json zero = []
entrances_json (suc i) = entrances_json i ++ entrance_json i ∷ []

abbrev spot_json : ℕ → Json
spot_json i =
    members (member (codes "id") (whole (pos (i + 1)))
    (member (codes "name") (words (codes "Spot " ++ decimal (i + 1)))
    (member (codes "region") (words (region (i / 6)))
    (member (codes "rule") (flag true) no_members))))

abbrev spots_json : ℕ → List Json
spots_json zero = []
spots_json (suc i) = spots_json i ++ spot_json i ∷ []

abbrev item_json : Json → ℕ → List ℕ → Json
item_json name id class =
    members (member (codes "class") (words class)
    (member (codes "id") (whole (pos id)) (member (codes "name") name no_members)))

abbrev keys_json : ℕ → List Json
keys_json zero = []
keys_json (suc i) = keys_json i ++ item_json (key_name i) (i + 1) (codes "progression") ∷ []

abbrev others_json : List Json
others_json =
    item_json (words (codes "Gem")) 10 (codes "useful") ∷ item_json (words (codes "Snare")) 11 (codes "trap")
    ∷ item_json (words (codes "Coin")) 12 (codes "filler") ∷ []

abbrev copies_json : Json → ℕ → Json
copies_json name count = members (member (codes "count") (whole (pos count)) (member (codes "item") name no_members))

abbrev singles_json : ℕ → List Json
singles_json zero = []
singles_json (suc i) = singles_json i ++ copies_json (key_name i) 1 ∷ []

abbrev key_names : ℕ → List Json
key_names zero = []
key_names (suc i) = key_names i ++ key_name i ∷ []

abbrev pub world_json : Json
world_json =
    members (member (codes "entrances") (list_json (entrances_json 9))
    (member (codes "filler") (words (codes "Coin"))
    (member (codes "format") (words (codes "mw-world-1"))
    (member (codes "game") (words (codes "Stress"))
    (member (codes "goal") (members (member (codes "has_all") (list_json (key_names 9)) no_members))
    (member (codes "items") (list_json (keys_json 9 ++ others_json))
    (member (codes "locations") (list_json (spots_json 60))
    (member (codes "pool") (list_json (singles_json 9 ++ copies_json (words (codes "Gem")) 6 ∷ copies_json (words (codes "Snare")) 3 ∷ []))
    (member (codes "regions") (list_json (regions_json 10)) no_members)))))))))

-- ---- players

abbrev pub player_json : ℕ → Json
player_json i =
    members (member (codes "names") (list_json (words (player_name (i + 1)) ∷ []))
    (member (codes "world") (words world_file) no_members))

abbrev pub player_list : ℕ → List Json
player_list zero = []
player_list (suc i) = player_list i ++ player_json i ∷ []

abbrev room_json : Json
room_json = members (member (codes "collect") (words (codes "disabled")) (member (codes "release") (words (codes "disabled")) no_members))

abbrev pub players_json : ℕ → Json
players_json n =
    members (member (codes "format") (words (codes "mw-players-1"))
    (member (codes "players") (list_json (player_list n))
    (member (codes "room") room_json no_members)))
