-- The world files that players name, in first-named order, and the tables of a file.
use Rattle.std.specs.Prelude.{ℕ, ◌++◌, List, [], ◌∷◌, Bool, Option, Some, None, bytes_eq, slice_index_or, if◌then◌else◌}
use Rattle.std.specs.List.{list_any, position_from}
use Rattle.mw_rules.specs.Rule.{always}
use Rattle.mw_multi.specs.World.{World}
use Rattle.mw_multi.specs.Players.{Player, Players}

-- the list has the name
abbrev pub is_among : List (List ℕ) → List ℕ → Bool
is_among names name = list_any (bytes_eq name) names

-- the files, with this one where it isn't among them yet
abbrev pub with_file : List (List ℕ) → List ℕ → List (List ℕ)
with_file files file = if is_among files file then files else files ++ file ∷ []

-- the files, with those of these players
abbrev pub files_with : List (List ℕ) → List Player → List (List ℕ)
files_with files [] = files
files_with files (p ∷ ps) = files_with (with_file files p.world) ps

-- the different files that the players name
abbrev pub world_files : Players → List (List ℕ)
world_files players = files_with [] players.players

-- empty tables, which stand past the end
abbrev pub no_world : World
no_world =
    record {
      game = [];
      origin = 0;
      regions = [];
      entrances = [];
      locations = [];
      items = [];
      pool = [];
      filler = 0;
      goal = always;
    }

abbrev pub world_at : List World → Option ℕ → World
world_at worlds None = no_world
world_at worlds (Some n) = slice_index_or worlds n no_world

-- the tables of the file of this name
abbrev pub world_named : List (List ℕ) → List World → List ℕ → World
world_named files worlds name = world_at worlds (position_from (bytes_eq name) 0 files)
