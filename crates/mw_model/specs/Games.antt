-- A game's names as JSON, and their checksum, after Archipelago's network protocol.
use Rattle.std.specs.Prelude.{ℕ, ◌∷◌, [], List, codes}
use Rattle.sha1.specs.Sha1.{sha1}
use Rattle.hex.specs.Hex.{encode_lower}
use Rattle.mw_model.specs.Json.{Json, whole, members, Members, no_members, member}
use Rattle.mw_model.specs.Seed.{Game, NamedId}
use Rattle.mw_model.specs.Spelling.{spelling}

abbrev pub ids_members : List NamedId → Members
ids_members [] = no_members
ids_members (n ∷ ns) = member n.name (whole n.id) (ids_members ns)

abbrev pub game_json : Game → Json
game_json g =
    members (member (codes "item_name_to_id") (members (ids_members g.item_name_to_id))
    (member (codes "location_name_to_id") (members (ids_members g.location_name_to_id)) no_members))

-- SHA-1, in lower-case hexadecimal, of the compact text of the game's names
unfoldable pub checksum_of : Game → List ℕ
checksum_of g = encode_lower (sha1 (spelling (game_json g)))
