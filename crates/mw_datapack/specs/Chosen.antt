-- The members of the data package, as a list.
use Rattle.std.specs.Prelude.{ℕ, ◌&&◌, List, [], ◌∷◌, Option, if◌then◌else◌}
use Rattle.mw_model.specs.Json.{Json}
use Rattle.mw_model.specs.Seed.{Slot, Game}
use Rattle.mw_protocol.specs.Packages.{data_json, is_wanted}
use Rattle.mw_protocol.specs.Players.{plays}

-- the wanted games that a slot plays, each under its name
abbrev pub chosen_members : List Slot → Option (List (List ℕ)) → List Game → List (List ℕ × Json)
chosen_members slots wanted [] = []
chosen_members slots wanted (g ∷ gs) =
    if plays slots g.name && is_wanted wanted g.name then
    (g.name, data_json g) ∷ chosen_members slots wanted gs
    else chosen_members slots wanted gs
