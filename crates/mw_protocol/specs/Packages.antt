-- The data package: the names of games with their ids, and their checksums.
use Rattle.std.specs.Prelude.{ℕ, ◌&&◌, ◌∷◌, [], List, Bool, true, Option, Some, None, codes, if◌then◌else◌}
use Rattle.mw_model.specs.Games.{checksum_of, ids_members}
use Rattle.mw_model.specs.Json.{Json, words, members, Members, no_members, member}
use Rattle.mw_model.specs.Seed.{Seed, Slot, Game}
use Rattle.mw_model.specs.Texts.{has_text}
use Rattle.mw_protocol.specs.Players.{plays}

-- a game's names with their ids, and their checksum
abbrev pub data_json : Game → Json
data_json g =
    members (member (codes "checksum") (words (checksum_of g))
    (member (codes "item_name_to_id") (members (ids_members g.item_name_to_id))
    (member (codes "location_name_to_id") (members (ids_members g.location_name_to_id))
    no_members)))

-- all games, or those of these names
abbrev pub is_wanted : Option (List (List ℕ)) → List ℕ → Bool
is_wanted None game = true
is_wanted (Some games) game = has_text games game

-- the wanted games that a slot plays, in byte order
abbrev pub data_members : List Slot → Option (List (List ℕ)) → List Game → Members
data_members slots wanted [] = no_members
data_members slots wanted (g ∷ gs) =
    if plays slots g.name && is_wanted wanted g.name
    then member g.name (data_json g) (data_members slots wanted gs)
    else data_members slots wanted gs

abbrev pub package_json : Seed → Option (List (List ℕ)) → Json
package_json seed wanted =
    members (member (codes "games") (members (data_members seed.slots wanted seed.games))
    no_members)
