-- Names with their ids as members.
use Rattle.std.proofs.Common.{◌≡◌, ℕ, List, [], ◌∷◌, map, refl, ap}
use Rattle.mw_model.specs.Json.{Json, member, whole}
use Rattle.mw_model.specs.Games.{ids_members}
use Rattle.mw_model.specs.Seed.{NamedId}
use Rattle.mw_json.specs.View.{members_of}

-- an id under its name
abbrev pub id_member : NamedId → List ℕ × Json
id_member n = (n.name, whole n.id)

pub same_ids : (ns : List NamedId) → members_of (map id_member ns) ≡ ids_members ns
same_ids [] = refl
same_ids (n ∷ ns) = ap (member n.name (whole n.id)) (same_ids ns)
