-- Names by id.
use Rattle.std.specs.Prelude.{ℕ, List, [], ◌∷◌, Bool, true, false, not, Option, Some, None, if◌then◌else◌}
use Rattle.mw_model.specs.Seed.{Game, NamedId}

abbrev pub location_names : Option Game → List NamedId
location_names None = []
location_names (Some game) = game.location_name_to_id

abbrev pub item_names : Option Game → List NamedId
item_names None = []
item_names (Some game) = game.item_name_to_id

-- a name, where it is wanted
abbrev pub name_if : Bool → List ℕ → List (List ℕ)
name_if wanted name = if wanted then name ∷ [] else []

-- whether it is as wanted
abbrev pub is_as : Bool → Bool → Bool
is_as true is = is
is_as false is = not is
